-- What is read of entry i is its key, unless the key is bad.
use Rattle.std.proofs.Common.{◌≡◌, refl, ◌+◌, ◌*◌, ◌<◌, ℕ, List, false, arith, sym, ap, ◌∙◌, Option, Some, Err}
use Rattle.rules.specs.Bytes.{unsigned_at}
use Rattle.rules.specs.Sheet.{Sheet, sheet_of}
use Rattle.rules.specs.Refusals.{number_of, numbered, refusal_of, bad_key, key_refusal}
use Rattle.proof_laws.specs.FirstPlace.{first-start, first-end, scan-more, scan-found}
use Rattle.proof_laws.specs.Read.{gives, unless, gives-says, same_gives, refused_says}
use Rattle.sheet_entries.specs.KeyRead.{key_answered, key_read}
use Rattle.sheet_header.specs.declared.Header.{Header}
use Rattle.sheet_header.specs.Header.{Headed, entries-is, keys-begin}
use Rattle.sheet_checks.proofs.Floor.{floor_of, floor-next, key-test}
use Rattle.sheet_checks.proofs.check_keys.Goals as goal

-- ---- entry i of a sheet that has a header
module _ {s : List ℕ} {h : Header} (headed : Headed s h) (i : ℕ) where
  key-read : (key : ℕ) → key ≡ unsigned_at 2 s (h.length + 2 * i) → key ≡ (sheet_of s).key i
  key-read key k = k ∙ ap (unsigned_at 2 s) (omega (arith, keys-begin headed.header))

  read-is : (floor key : ℕ) (read : Option ℕ) → floor ≡ floor_of (sheet_of s) i
      → key ≡ unsigned_at 2 s (h.length + 2 * i)
      → key_answered read ≡ key_read h.sizes.shape floor key
      → key_answered read ≡ unless 5 (bad_key (sheet_of s) i) (gives ((sheet_of s).key i))
  unfolding key_read
  read-is floor key read f k e =
      let S = sheet_of s in
      let same = key-read key k in
      e
      ∙ (λ j. key_read (headed.header.is j).sizes.shape (f j) (same j))
      ∙ (λ j. unless 5 (key-test S i j) (gives (S.key i)))

pub loop-i-init : goal.loop-i-init
unfolding floor_of
loop-i-init c = record { keys = first-start _; floor_is = refl }

pub returns-in_default : goal.returns-in_default
unfolding refusal_of numbered number_of key_refusal key_answered
returns-in_default c =
    let S = sheet_of c.args.s.now in
    let i = c.loop-i.i in
    let at = c.loop-i.invariant in
    let read = c.read_key in
    let answered = read-is c.requires i c.loop-i.floor c.size_at.result read.result at.floor_is c.size_at.ensures.is
    read.ensures in
    let bad = refused_says 5 5 (bad_key S i) (S.key i) (sym answered ∙ ap key_answered c.in_default.is) in
    let inside : i < S.entries = omega (arith, entries-is c.requires.header) in
    ap (λ r. refusal_of (Err r)) c.at.ensures ∙ sym (scan-found 5 (bad_key S) S.entries inside at.keys bad)

-- what an answer with a key says
good-says : (S : Sheet) (i key : ℕ) (read : Option ℕ) → read ≡ Some key
    → key_answered read ≡ unless 5 (bad_key S i) (gives (S.key i)) → (bad_key S i ≡ false) × (S.key i ≡ key)
unfolding key_answered
good-says S i key read is answered =
    let says = gives-says 5 _ _ _ (sym answered ∙ ap key_answered is) in
    (says.0, same_gives _ _ says.1)

pub overflow_add-floor : goal.overflow_add-floor
overflow_add-floor c =
    let S = sheet_of c.args.s.now in
    let i = c.loop-i.i in
    let size = c.size_at.ensures in
    let read = c.read_key in
    let answered = read-is c.requires i c.loop-i.floor c.size_at.result read.result c.loop-i.invariant.floor_is size.is
    read.ensures in
    let key = (good-says S i c.in-Some.key read.result c.in-Some.is answered).1 in
    omega (arith, key, key-read c.requires i c.size_at.result size.is, size.small)

pub loop-i-preserved : goal.loop-i-preserved
loop-i-preserved c =
    let S = sheet_of c.args.s.now in
    let i = c.loop-i.i in
    let at = c.loop-i.invariant in
    let read = c.read_key in
    let answered = read-is c.requires i c.loop-i.floor c.size_at.result read.result at.floor_is c.size_at.ensures.is
    read.ensures in
    let says = good-says S i c.in-Some.key read.result c.in-Some.is answered in
    record {
      keys = scan-more 5 (bad_key S) at.keys says.0;
      floor_is = omega (arith, floor-next S i, says.1);
    }

pub returns : goal.returns
unfolding refusal_of key_refusal
returns c =
    let header = c.requires.header in
    let all : c.loop-i.i ≡ (sheet_of c.args.s.now).entries = omega (arith, entries-is header) in
    sym (first-end _ all c.loop-i.invariant.keys)
