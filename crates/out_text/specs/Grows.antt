-- A call that is lent a text.
use Rattle.std.specs.Prelude.{ℕ, ◌≡◌, List, [], ◌++◌}
use Rattle.std.proofs.Common.{refl, ◌∙◌}
use Rattle.out_text.specs.declared.Text.{Text as Lent}
use Rattle.out_text.specs.Text.{Puts}
use Rattle.out_text.specs.Growing.{puts_none, then, puts-as}

-- it has put `bs` at the end of the text, into the same lent bytes
pub record Grows (bs : List ℕ) (before after : Lent) : Type 0 where
  pub same_bytes : after.bytes.ghost_name ≡ before.bytes.ghost_name
  pub puts : Puts bs before.bytes.now before.end after.bytes.now after.end

-- before the first call, nothing has been put
pub grows_none : {t : Lent} → Grows [] t t
grows_none = record { same_bytes = refl; puts = puts_none }

-- two calls, one after the other, put the bytes of both
pub grows-then : {xs ys : List ℕ} {t u v : Lent} → Grows xs t u → Grows ys u v → Grows (xs ++ ys) t v
grows-then first second =
    record { same_bytes = second.same_bytes ∙ first.same_bytes; puts = then first.puts second.puts }

-- the same bytes, named in another way
pub grows-as : {xs ys : List ℕ} {t u : Lent} → xs ≡ ys → Grows xs t u → Grows ys t u
grows-as e p = record { same_bytes = p.same_bytes; puts = puts-as e p.puts }

-- who lent the bytes of a text finds in them what was put
pub put-in : {bs d : List ℕ} {t u : Lent} → Grows bs t u → d ≡ u.bytes.now → Puts bs t.bytes.now t.end d u.end
put-in p left = rw left p.puts
