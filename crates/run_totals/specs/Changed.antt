-- An array changed in place, at its first places.
use Rattle.std.specs.Prelude.{◌≡◌, refl, Bool, true, false, List, ℕ, ◌+◌, ◌≤◌, ◌<◌, ltb, eqb, ℤ, pos, length, set}
use Rattle.std.proofs.Common.{sym, ap, ◌∙◌, le_trans, le_of_eq, lt_of_lt_of_le, arith, ltb-true, ltb-false, eqb-true}
use Rattle.std.proofs.Common.{length-set, get_or-set_same, get_or-set_other, ext_get_or}
use Rattle.std.proofs.lemmas.Bool.{eqb-false}
use Rattle.std.proofs.Math.ListN.{get_or-eq_default}
use Rattle.proof_integer.specs.Vector.{length-tabulate, at-tabulate}
use Rattle.sheet_figures.specs.Padded.{padded, length-padded, at-padded}
use Rattle.rules.specs.Notation.{tabulate, at}

-- the first n places, of those that the array has, hold f, and the others what they had
pub record Changed (n : ℕ) (f : ℕ → ℤ) (old new : List ℤ) : Type 0 where
  pub long : length new ≡ length old
  pub here : (i : ℕ) → i < n → i < length old → at new i ≡ f i
  pub past : (i : ℕ) → n ≤ i → at new i ≡ at old i

module _ {f : ℕ → ℤ} {old : List ℤ} where
  -- no place is changed yet
  pub changed-start : Changed 0 f old old
  changed-start = record { long = refl; here = λ i l h. absurd (omega arith); past = λ i l. refl }

  -- each turn changes the next place
  pub changed-next : {i : ℕ} {new : List ℤ} {v : ℤ} → Changed i f old new → v ≡ f i
      → Changed (i + 1) f old (set new i v)
  changed-next {i} {new} {v} c e = record {
    long = length-set new i v ∙ c.long;
    here = λ x h l. by x (eqb x i) refl h l;
    past = λ x h. get_or-set_other new i x v (pos 0) (λ q. omega arith) ∙ c.past x (omega arith);
  }
    where
      by : (x : ℕ) (b : Bool) → eqb x i ≡ b → x < i + 1 → x < length old → at (set new i v) x ≡ f x
      by x true p h l =
          let same : x ≡ i = eqb-true x i p in
          rw same (get_or-set_same new i v (pos 0) (rw (c.long, ← same) l) ∙ e)
      by x false p h l =
          let other = eqb-false x i p in
          get_or-set_other new i x v (pos 0) other ∙ c.here x (omega (arith, other)) l

  -- and the last
  pub changed-end : {i n : ℕ} {new : List ℤ} → i ≡ n → Changed i f old new → Changed n f old new
  changed-end e c = rw e at c

-- an array that holds a list of n elements, all of them changed, holds the changed list
pub changed-all : (room : ℕ) (xs : List ℤ) {n : ℕ} {f : ℕ → ℤ} {old new : List ℤ}
    → old ≡ padded room xs → length xs ≡ n → n ≤ room → Changed n f old new → new ≡ padded room (tabulate n f)
changed-all room xs {n} {f} {old} {new} e l few c =
    ext_get_or (pos 0) _ _ (c.long ∙ ap length e ∙ length-padded room xs ∙ sym (length-padded room (tabulate n f)))
    (λ i h. by i (ltb i n) refl ∙ sym (reads i))
  where
    reads : (i : ℕ) → at (padded room (tabulate n f)) i ≡ at (tabulate n f) i
    reads i = ap (λ (g : ℕ → ℤ). g i) (at-padded room (tabulate n f) (rw length-tabulate few))

    by : (i : ℕ) (b : Bool) → ltb i n ≡ b → at new i ≡ at (tabulate n f) i
    by i true h =
        let below = ltb-true i n h in
        c.here i below (rw (e, length-padded) (lt_of_lt_of_le below few)) ∙ sym (at-tabulate n f i below)
    by i false h =
        let out : n ≤ i = ltb-false i n h in
        c.past i out
        ∙ ap (λ (ys : List ℤ). at ys i) e
        ∙ ap (λ (g : ℕ → ℤ). g i) (at-padded room xs (le_trans (le_of_eq l) few))
        ∙ get_or-eq_default xs (pos 0) (le_trans (le_of_eq l) out)
        ∙ sym (get_or-eq_default (tabulate n f) (pos 0) (rw length-tabulate out))
