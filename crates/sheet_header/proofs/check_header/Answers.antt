-- Each test that fails ends in its own link of the chain; e, in its range, keeps the length small.
use Rattle.std.proofs.Common.{◌≡◌, ◌≤◌, sym, ap, ◌∙◌, ℕ, ◌+◌, ◌*◌, Bool, true, not, List, length, arith, eq-eqb, ne_eqb}
use Rattle.std.proofs.Common.{eqb, Err}
use Rattle.rules.specs.Sheet.{Sheet, sheet_length, sheet_of}
use Rattle.rules.specs.Ranges.{dimensions_in_range, parameters_in_range}
use Rattle.rules.specs.Refusals.{number_of, numbered, refusal_of, refuse, ◌otherwise◌, sizes_refusal}
use Rattle.proof_laws.specs.Sizes.{dimensions, short-header}
use Rattle.proof_laws.specs.FirstPlace.{refuse-yes, refuse-no, given, handed-on}
use Rattle.sheet_header.specs.declared.Header.{Header}
use Rattle.sheet_header.specs.Header.{HasHeader, entries-is, keys-begin}
use Rattle.sheet_header.proofs.check_header.Goals as goal

-- the header's tests are those of the sheet
module _ (s : List ℕ) (h : Header) (read : HasHeader s h) where
  abbrev S : Sheet
  S = sheet_of s

  tested : (b : Bool) → b ≡ dimensions_in_range h.sizes.shape h.entries
      → dimensions_in_range S.sizes.shape S.entries ≡ b
  tested b e = sym (e ∙ (λ i. dimensions_in_range (read.is i).sizes.shape (read.is i).entries))

  sizes-tested : (b : Bool) → b ≡ parameters_in_range h.sizes → parameters_in_range S.sizes ≡ b
  sizes-tested b e = sym (e ∙ (λ i. parameters_in_range (read.is i).sizes))

  -- n, m and e lie in their ranges
  module _ {b : Bool} (e : b ≡ dimensions_in_range h.sizes.shape h.entries) (t : b ≡ true) where
    in-range : dimensions_in_range S.sizes.shape S.entries ≡ true
    in-range = tested b e ∙ t

    after-dimensions : sizes_refusal S (length s)
        ≡ refuse 3 0 (not (eqb (length s) (sheet_length S.entries)))
        otherwise refuse 4 0 (not (parameters_in_range S.sizes))
    unfolding sizes_refusal
    after-dimensions = handed-on _ (refuse-no 2 0 (ap not in-range))

    short : h.length + 6 * h.entries ≤ 64000
    short = let r = dimensions _ _ in-range in omega (arith, entries-is read, keys-begin read, r.entries, short-header)

    -- and the length fits
    after-length : length s ≡ h.length + 6 * h.entries
        → sizes_refusal S (length s) ≡ refuse 4 0 (not (parameters_in_range S.sizes))
    after-length long =
        let fits =
        ap not (eq-eqb (length s) (sheet_length S.entries) (omega (arith, entries-is read, keys-begin read))) in
        after-dimensions ∙ handed-on _ (refuse-no 3 0 fits)

pub returns-then-not-dimensions_in_range : goal.returns-then-not-dimensions_in_range
unfolding refusal_of numbered number_of sizes_refusal
returns-then-not-dimensions_in_range c =
    let t = tested c.args.s.now c.args.header c.requires _ c.dimensions_in_range.ensures in
    ap (λ r. refusal_of (Err r)) c.at.ensures
    ∙ sym (given _ (refuse-yes 2 0 (ap not (t ∙ c.if-not-dimensions_in_range.true))))

pub overflow_mul-e : goal.overflow_mul-e
overflow_mul-e c =
    let h = short c.args.s.now c.args.header c.requires c.dimensions_in_range.ensures
    c.if-not-dimensions_in_range.false in
    record { fits = omega arith }

pub overflow_add-keys : goal.overflow_add-keys
overflow_add-keys c =
    let h = short c.args.s.now c.args.header c.requires c.dimensions_in_range.ensures
    c.if-not-dimensions_in_range.false in
    record { fits = omega arith }

pub returns-then-s-keys : goal.returns-then-s-keys
unfolding refusal_of numbered number_of
returns-then-s-keys c =
    let s = c.args.s.now in
    let h = c.args.header in
    let e : sheet_length (sheet_of s).entries ≡ h.length + 6 * h.entries =
    omega (arith, entries-is c.requires, keys-begin c.requires) in
    let out = ap not (ne_eqb (length s) (sheet_length (sheet_of s).entries) (λ q. c.if-s-keys.true (q ∙ e))) in
    ap (λ r. refusal_of (Err r)) c.at-then-s-keys.ensures
    ∙ sym (after-dimensions s h c.requires c.dimensions_in_range.ensures c.if-not-dimensions_in_range.false
    ∙ given _ (refuse-yes 3 0 out))

pub returns-then-not-parameters_in_range : goal.returns-then-not-parameters_in_range
unfolding refusal_of numbered number_of
returns-then-not-parameters_in_range c =
    let s = c.args.s.now in
    let h = c.args.header in
    let t = sizes-tested s h c.requires _ c.parameters_in_range.ensures in
    ap (λ r. refusal_of (Err r)) c.at-then-not-parameters_in_range.ensures
    ∙ sym (after-length s h c.requires c.dimensions_in_range.ensures c.if-not-dimensions_in_range.false
    c.if-s-keys.false
    ∙ refuse-yes 4 0 (ap not (t ∙ c.if-not-parameters_in_range.true)))

pub returns : goal.returns
unfolding refusal_of
returns c =
    let s = c.args.s.now in
    let h = c.args.header in
    let t = sizes-tested s h c.requires _ c.parameters_in_range.ensures in
    sym (after-length s h c.requires c.dimensions_in_range.ensures c.if-not-dimensions_in_range.false c.if-s-keys.false
    ∙ refuse-no 4 0 (ap not (t ∙ c.if-not-parameters_in_range.false)))
