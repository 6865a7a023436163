-- What a loop has still to put.
use Rattle.std.specs.Prelude.{ℕ, ◌≡◌, List, [], ◌∷◌}
use Rattle.std.proofs.Common.{ap, ◌∙◌}
use Rattle.out_text.specs.Text.{puts, Puts}

-- putting `rest` to d at `end` gives what putting `all` to d₀ at `at` gives
pub record StillToPut (all d₀ : List ℕ) (at : ℕ) (rest d : List ℕ) (end : ℕ) : Type 0 where
  pub is : puts rest (record { bytes = d; end = end }) ≡ puts all (record { bytes = d₀; end = at })

-- one byte is put, and is no longer left
pub left-next : {all d₀ rest d d' : List ℕ} {at end end' b : ℕ}
    → StillToPut all d₀ at (b ∷ rest) d end → Puts (b ∷ []) d end d' end' → StillToPut all d₀ at rest d' end'
unfolding puts
left-next {rest = rest} l p = record { is = ap (puts rest) p.is ∙ l.is }

-- nothing is left
pub left-none : {all d₀ d : List ℕ} {at end : ℕ} → StillToPut all d₀ at [] d end → Puts all d₀ at d end
unfolding puts
left-none l = record { is = l.is }
