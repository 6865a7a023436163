-- Arrays by their places: one place set, all places 0, and what is read past the end.
use Rattle.std.specs.Prelude.{◌≡◌, refl, Bool, true, false, List, ℕ, ◌≤◌, ◌<◌, eqb, ℤ, pos, length, set, replicate}
use Rattle.std.proofs.Common.{sym, ◌∙◌, eqb-true, length-set, get_or-set_same, get_or-set_other, ext_get_or}
use Rattle.std.proofs.lemmas.Bool.{eqb-false}
use Rattle.std.proofs.lemmas.List.{length-replicate, get_or-replicate}
use Rattle.std.proofs.Math.ListN.{get_or-eq_default}
use Rattle.proof_integer.specs.Vector.{length-tabulate, at-tabulate}
use Rattle.rules.specs.Notation.{tabulate, at}

-- past the end of a list 0 is read
pub at-past : (xs : List ℤ) (i : ℕ) → length xs ≤ i → at xs i ≡ pos 0
at-past xs i l = get_or-eq_default xs (pos 0) l

module _ (room : ℕ) (f : ℕ → ℤ) where
  -- an array that holds 0 at every place
  pub tabulate-zero : ((x : ℕ) → x < room → f x ≡ pos 0) → tabulate room f ≡ replicate room (pos 0)
  tabulate-zero h =
      ext_get_or (pos 0) _ _ (length-tabulate room f ∙ sym (length-replicate room (pos 0)))
      (λ x k.
      let l : x < room = rw length-tabulate at k in
      at-tabulate room f x l ∙ h x l ∙ sym (get_or-replicate room x (pos 0) (pos 0) l))

  -- a place is set, where the others stay
  pub tabulate-set : (g : ℕ → ℤ) {x : ℕ} {v : ℤ} → x < room → v ≡ g x
      → ((y : ℕ) → y < room → (y ≡ x → ⊥) → f y ≡ g y) → set (tabulate room f) x v ≡ tabulate room g
  tabulate-set g {x} {v} l e others =
      ext_get_or (pos 0) _ _ (simp (length-set, length-tabulate))
      (λ y k. by y (simp (length-set, length-tabulate) at k) (eqb y x) refl)
    where
      by : (y : ℕ) → y < room → (b : Bool) → eqb y x ≡ b → at (set (tabulate room f) x v) y ≡ at (tabulate room g) y
      by y k true q =
          rw (eqb-true y x q)
          (get_or-set_same (tabulate room f) x v (pos 0) (rw length-tabulate l) ∙ e ∙ sym (at-tabulate room g x l))
      by y k false q =
          let other = eqb-false y x q in
          get_or-set_other (tabulate room f) x y v (pos 0) other
          ∙ at-tabulate room f y k ∙ others y k other ∙ sym (at-tabulate room g y k)
