-- Each pass hands on where it refuses nothing, and the reading ends with the first that refuses.
use Rattle.std.proofs.Common.{◌≡◌, ℕ, List, Some, false, ltb, length, sym, ap, ◌∙◌}
use Rattle.std.proofs.Math.Option.{some}
use Rattle.std.proofs.lemmas.Result.{err_from_is_err_and}
use Rattle.rules.specs.Sheet.{header_length, sheet_of}
use Rattle.rules.specs.Refusals.{number_of, numbered, refusal_of}
use Rattle.proof_laws.specs.Read.{gives-says, same_gives, refused_says}
use Rattle.proof_laws.specs.FirstPlace.{given}
use Rattle.sheet_header.specs.declared.Header.{Header}
use Rattle.sheet_header.specs.Header.{header_of, header_answered, header_read, headed}
use Rattle.sheet_read.proofs.Chain.{short, after-short}
use Rattle.sheet_read.proofs.Passes.{after-header, after-keys}
use Rattle.sheet_read.proofs.Outcome.{turned-back, told-as}
use Rattle.sheet_read.proofs.read_sheet.Goals as goal

-- what an answer with a header says
whole-says : (s : List ℕ) (header : Header) → header_answered (Some header) ≡ header_read s
    → (ltb (length s) header_length ≡ false) × (header ≡ header_of s)
unfolding header_answered header_read
whole-says s header answered =
    let says = gives-says 1 _ _ _ (sym answered) in
    (says.0, sym (same_gives _ _ says.1))

pub returns-in_default : goal.returns-in_default
unfolding refusal_of numbered number_of header_answered header_read
returns-in_default c =
    let s = c.args.s.now in
    let is-short = short s (refused_says 1 1 _ _ (sym c.in_default.ensures)) in
    turned-back (sheet_of s) _ (is-short ∙ ap (λ r. some (numbered r)) (sym c.at.ensures))

pub check_header-requires : goal.check_header-requires
check_header-requires c = record { is = (whole-says c.args.s.now _ c.in-Some.ensures).1 }

pub returns-in_err-check_header : goal.returns-in_err-check_header
unfolding refusal_of
returns-in_err-check_header c =
    let s = c.args.s.now in
    let refused = err_from_is_err_and c.from_residual.result c.from_residual.ensures.1 in
    let says = whole-says s _ c.in-Some.ensures in
    rw (refused.1, refused.2)
    (turned-back (sheet_of s) _ (after-short s says.0 ∙ given _ (sym c.in_err-check_header.ensures)))

pub check_keys-requires : goal.check_keys-requires
unfolding refusal_of
check_keys-requires c =
    let s = c.args.s.now in
    headed s (whole-says s _ c.in-Some.ensures).1 (sym c.in_ok-check_header.ensures)

pub returns-in_err-check_keys : goal.returns-in_err-check_keys
unfolding refusal_of
returns-in_err-check_keys c =
    let s = c.args.s.now in
    let refused =
    err_from_is_err_and c.from_residual-in_err-check_keys.result c.from_residual-in_err-check_keys.ensures.1 in
    let says = whole-says s _ c.in-Some.ensures in
    rw (refused.1, refused.2)
    (turned-back (sheet_of s) _
    (after-header s says.0 (sym c.in_ok-check_header.ensures) ∙ given _ (sym c.in_err-check_keys.ensures)))

pub read_figures-requires : goal.read_figures-requires
unfolding refusal_of
read_figures-requires c =
    let s = c.args.s.now in
    let says = whole-says s _ c.in-Some.ensures in
    record {
      headed = headed s says.1 (sym c.in_ok-check_header.ensures);
      keys = sym c.in_ok-check_keys.ensures;
    }

pub returns : goal.returns
unfolding refusal_of
returns c =
    let s = c.args.s.now in
    let says = whole-says s _ c.in-Some.ensures in
    let chain = after-keys s says.0 (sym c.in_ok-check_header.ensures) (sym c.in_ok-check_keys.ensures) in
    told-as (sheet_of s) (sym chain) c.read_figures.ensures
