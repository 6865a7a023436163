-- The key's place decides, and then the least key that it may be.
use Rattle.std.proofs.Common.{sym}
use Rattle.proof_laws.specs.Read.{gives-says, refused_says}
use Rattle.sheet_kinds.specs.Meaning.{meaning_of, meaning_at}
use Rattle.sheet_entries.specs.KeyRead.{key_answered}
use Rattle.sheet_entries.proofs.Tests.{no-figure, low-key, good-key}
use Rattle.sheet_entries.proofs.read_key.Goals as goal

pub returns-in_err-meaning_at : goal.returns-in_err-meaning_at
unfolding key_answered meaning_of meaning_at
returns-in_err-meaning_at c =
    rw c.from_residual.ensures (sym (no-figure _ _ _ (refused_says 5 5 _ _ (sym c.in_err-meaning_at.ensures))))

pub returns-then-key-floor : goal.returns-then-key-floor
unfolding key_answered meaning_of meaning_at
returns-then-key-floor c =
    sym (low-key _ _ _ (gives-says 5 _ _ _ (sym c.in_ok-meaning_at.ensures)).0 c.if-key-floor.true)

pub returns : goal.returns
unfolding key_answered meaning_of meaning_at
returns c = sym (good-key _ _ _ (gives-says 5 _ _ _ (sym c.in_ok-meaning_at.ensures)).0 c.if-key-floor.false)
