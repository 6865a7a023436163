-- What is read of entry i is its value, which goes to the place of its key, unless the value is bad.
use Rattle.std.proofs.Common.{◌≡◌, ◌+◌, ◌*◌, ◌/◌, ◌%◌, ◌<◌, ℕ, ℤ, List, set, false, arith, rules, sym, ap, ◌∙◌, SFits}
use Rattle.std.proofs.Common.{to_z, of_z, w32, Result, Ok, Err}
use Rattle.std.proofs.lemmas.Int.{to_z-of_z}
use Rattle.rules.specs.declared.Cause.{Cause}
use Rattle.rules.specs.Bytes.{unsigned_at, signed_at}
use Rattle.rules.specs.Sheet.{Sheet, sheet_of, row_of, column_of, value_under}
use Rattle.rules.specs.Refusals.{number_of, numbered, refusal_of, bad_value, value_refusal}
use Rattle.proof_laws.specs.Read.{gives, unless, unless-no, gives-says, same_gives, refused_says}
use Rattle.proof_laws.specs.Entries.{no_figure_for}
use Rattle.proof_laws.specs.FirstPlace.{first-start, first-end, scan-more, scan-found}
use Rattle.sheet_entries.specs.EntryRead.{entry_answered, entry_read}
use Rattle.sheet_header.specs.declared.Header.{Header}
use Rattle.sheet_header.specs.Header.{entries-is, keys-begin, sheet-in-range}
use Rattle.sheet_table.specs.Tabled.{InTable, place_at, place-below, tabled, figure-in-table}
use Rattle.sheet_checks.specs.Keys.{Keyed, figure-there}
use Rattle.sheet_store.specs.Values.{stored_by, entry-stored}
use Rattle.sheet_store.proofs.store_entries.Goals as goal

-- ---- entry i, whose key stands for a figure
module _ {s : List ℕ} {h : Header} (keyed : Keyed s h) (i : ℕ) (inside : i < h.entries) where
  abbrev S : Sheet
  S = sheet_of s

  there : no_figure_for S i ≡ false
  there = figure-there keyed i (omega (arith, entries-is keyed.headed.header))

  in-table : InTable (row_of (S.key i)) (column_of (S.key i))
  in-table = figure-in-table _ _ (sheet-in-range keyed.headed) there

  key-read : (key : ℕ) → key ≡ unsigned_at 2 s (h.length + 2 * i) → key ≡ S.key i
  key-read key k = k ∙ ap (unsigned_at 2 s) (omega (arith, keys-begin keyed.headed.header))

  value-read : (value : ℤ) → SFits w32 value → value ≡ signed_at 4 s (h.length + 2 * h.entries + 4 * i)
      → to_z w32 (of_z w32 value) ≡ S.value i
  value-read value fits v =
      let read = keyed.headed.header in
      to_z-of_z w32 value fits ∙ v ∙ ap (signed_at 4 s) (omega (arith, entries-is read, keys-begin read))

  read-is : (key : ℕ) (value : ℤ) (read : Result ℤ Cause) → key ≡ S.key i → value ≡ S.value i
      → entry_answered read ≡ entry_read h.sizes.shape key value
      → entry_answered read ≡ unless 6 (bad_value S i) (gives (S.value i))
  unfolding entry_read bad_value
  read-is key value read k v e =
      e
      ∙ (λ j. entry_read (keyed.headed.header.is j).sizes.shape (k j) (v j))
      ∙ unless-no 5 _ there

pub loop-i-init : goal.loop-i-init
unfolding value_under
loop-i-init c = record { values = first-start _; stored = c.requires.empty }

-- ---- what was read of entry i, where there is an entry i
answered : {s : List ℕ} {h : Header} (keyed : Keyed s h) (i : ℕ) → i < h.entries → (key : ℕ) (value : ℤ)
    (read : Result ℤ Cause) → key ≡ unsigned_at 2 s (h.length + 2 * i) → SFits w32 value
    → value ≡ signed_at 4 s (h.length + 2 * h.entries + 4 * i)
    → entry_answered read ≡ entry_read h.sizes.shape key (to_z w32 (of_z w32 value))
    → entry_answered read ≡ unless 6 (bad_value (sheet_of s) i) (gives ((sheet_of s).value i))
answered {s} {h} keyed i inside key value read k fits v e =
    read-is keyed i inside key (to_z w32 (of_z w32 value)) read (key-read keyed i inside key k)
    (value-read keyed i inside value fits v) e

-- where its value is good
good-says : (S : Sheet) (i : ℕ) (value : ℤ) (read : Result ℤ Cause) → read ≡ Ok value
    → entry_answered read ≡ unless 6 (bad_value S i) (gives (S.value i))
    → (bad_value S i ≡ false) × (S.value i ≡ value)
unfolding entry_answered
good-says S i value read is answer =
    let says = gives-says 6 _ _ _ (sym answer ∙ ap entry_answered is) in
    (says.0, same_gives _ _ says.1)

pub returns-in_default-clause-result_value : goal.returns-in_default-clause-result_value
unfolding refusal_of numbered number_of value_refusal entry_answered
returns-in_default-clause-result_value c =
    let S = sheet_of c.args.s.now in
    let i = c.loop-i.i in
    let read = c.read_entry in
    let answer =
    answered c.requires.keyed i c.loop-i-test.true c.size_at-key.result c.signed_32.result read.result
    c.size_at-key.ensures.is (search rules) c.signed_32.ensures read.ensures in
    let bad = refused_says 6 _ (bad_value S i) (S.value i) (sym answer ∙ ap entry_answered c.in_default.is) in
    let inside : i < S.entries = omega (arith, entries-is c.requires.keyed.headed.header) in
    ap (λ r. refusal_of (Err r)) c.at.ensures
    ∙ sym (scan-found 6 (bad_value S) S.entries inside c.loop-i.invariant.values bad)

pub returns-in_default-clause-table_after : goal.returns-in_default-clause-table_after
unfolding stored_by
returns-in_default-clause-table_after c =
    let all = ap (λ r. stored_by (Err r) c.args.header.entries) c.at.ensures in
    c.loop-i.invariant.stored ∙ ap (λ k. tabled (value_under (sheet_of c.args.s.now) k)) (sym all)

pub place_at-at-requires : goal.place_at-at-requires
place_at-at-requires c =
    let i = c.loop-i.i in
    let keyed = c.requires.keyed in
    rw (key-read keyed i c.loop-i-test.true c.size_at-key.result c.size_at-key.ensures.is)
    (in-table keyed i c.loop-i-test.true)

place-is : (key other p : ℕ) → key ≡ other → p ≡ place_at (key / 64) (key % 64)
    → p ≡ place_at (row_of other) (column_of other)
place-is key other p same e = e ∙ ap (λ k. place_at (row_of k) (column_of k)) same

pub bounds-table-at : goal.bounds-table-at
bounds-table-at c =
    let i = c.loop-i.i in
    let keyed = c.requires.keyed in
    let key = c.size_at-key in
    let same = key-read keyed i c.loop-i-test.true key.result key.ensures.is in
    rw (place-is key.result _ c.place_at-at.result same c.place_at-at.ensures)
    (place-below (in-table keyed i c.loop-i-test.true))

pub loop-i-preserved : goal.loop-i-preserved
loop-i-preserved c =
    let S = sheet_of c.args.s.now in
    let i = c.loop-i.i in
    let keyed = c.requires.keyed in
    let key = c.size_at-key in
    let read = c.read_entry in
    let value = c.in-Ok.value in
    let answer =
    answered keyed i c.loop-i-test.true key.result c.signed_32.result read.result key.ensures.is (search rules)
    c.signed_32.ensures read.ensures in
    let says = good-says S i value read.result c.in-Ok.is answer in
    let same = key-read keyed i c.loop-i-test.true key.result key.ensures.is in
    let place = place-is key.result (S.key i) c.place_at-at.result same c.place_at-at.ensures in
    let fits : SFits w32 value = search rules in
    let kept = to_z-of_z w32 value fits ∙ sym says.1 in
    record {
      values = scan-more 6 (bad_value S) c.loop-i.invariant.values says.0;
      stored =
          (λ j. set (c.loop-i.invariant.stored j) (place j) (kept j))
          ∙ entry-stored S i (in-table keyed i c.loop-i-test.true);
    }

pub returns : goal.returns
unfolding refusal_of value_refusal stored_by
returns c =
    let header = c.requires.keyed.headed.header in
    let all : c.loop-i.i ≡ c.args.header.entries = omega arith in
    record {
      result_value = sym (first-end _ (all ∙ entries-is header) c.loop-i.invariant.values);
      table_after = c.loop-i.invariant.stored ∙ ap (λ k. tabled (value_under (sheet_of c.args.s.now) k)) all;
    }
