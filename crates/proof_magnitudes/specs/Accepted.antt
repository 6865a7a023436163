-- What a sheet that is read (T7.5) has: its sizes and its figures in their ranges, and no least amount above the most.
-- For a figure is 0 or the value of an entry, and the value of every entry passed the test of its range.
use Rattle.std.specs.Prelude.{◌≡◌, refl, Bool, not, cond, T, eqb, ℤ, ◌≤ℤ◌}
use Rattle.std.proofs.Math.Bool.{true, false}
use Prim.Native.Nat.{ℕ, zero, suc, ◌+◌, ◌<◌, ◌≤◌, zero-le}
use Rattle.std.proofs.Common.{le_refl, lt-suc_self, arith}
use Rattle.std.proofs.Math.Nat.{le_step}
use Rattle.std.proofs.Math.IntN.{pos}
use Rattle.std.specs.Int.Signed.{le_z_yes, lt_z_no}
use Rattle.std.specs.Float.Ieee.Fits.{and_l, and_r}
use Rattle.std.proofs.Math.Facts.{T_not-not, or_no, leb_yes, eqb_yes}
use Rattle.proof_integer.specs.Order.{≤ℤ-trans}
use Rattle.proof_integer.specs.Range.{Bnd, bnd-of, bnd-between}
use Rattle.rules.specs.Notation.{neg, is_zero}
use Rattle.rules.specs.declared.Kind.{Kind}
use Rattle.rules.specs.declared.Kind.TheVariants.{Coefficient, Rhs, Start}
use Rattle.rules.specs.declared.Range.{Range}
use Rattle.rules.specs.declared.Shape.{Shape}
use Rattle.rules.specs.Problem.{Problem}
use Rattle.rules.specs.Sheet.{Sheet, key_of, row_of, column_of, value_under, table_of, problem_from, problem}
use Rattle.rules.specs.Ranges.{◌from◌to◌, ranges, index_of, range_of, kind_at, in_range}
use Rattle.rules.specs.Ranges.{between, dimensions_in_range, parameters_in_range}
use Rattle.rules.specs.Refusals.{value_bad, bad_value, crossed}
use Rattle.proof_laws.specs.Entries.{key-parts, coefficient-kind, rhs-kind, start-kind}
use Rattle.proof_laws.specs.Agreeing.{Agree}
use Rattle.proof_laws.specs.Passed.{Passed}

-- The ranges of a problem and of its step count k (T2.6 and T3.2), each with both its ends, whether or not a proof
-- needs them.
pub record Accepted (P : Problem) (k : ℕ) : Type 0 where
  pub materials-some : 1 ≤ P.materials
  pub materials-few : P.materials ≤ 32
  pub limits-few : P.limits ≤ 16
  pub numerator-some : 1 ≤ P.numerator
  pub numerator-small : P.numerator ≤ 1024
  pub scale-some : 1 ≤ P.scale
  pub scale_small : P.scale ≤ 1024
  pub steps-some : 1 ≤ k
  pub steps-few : k ≤ 4096
  pub cost-in : (j : ℕ) → j < P.materials → Bnd (P.cost j) 10000
  -- 0 ≤ l_j ≤ u_j ≤ 1,000: the range of T3.2 begins at 1, but an amount that has no entry is 0 (T3.3)
  pub least-sign : (j : ℕ) → j < P.materials → pos 0 ≤ℤ P.least j
  pub ordered : (j : ℕ) → j < P.materials → P.least j ≤ℤ P.most j
  pub most-in : (j : ℕ) → j < P.materials → P.most j ≤ℤ pos 1000
  pub coefficient-in : (i : ℕ) → i < P.limits → (j : ℕ) → j < P.materials → Bnd (P.coefficient i j) 1000
  pub rhs-in : (i : ℕ) → i < P.limits → Bnd (P.rhs i) 32000000
  -- 0 ≤ s_i ≤ 2³⁰: a start that has no entry is 0 too
  pub start-sign : (i : ℕ) → i < P.limits → pos 0 ≤ℤ P.starting_multiplier i
  pub start-top : (i : ℕ) → i < P.limits → P.starting_multiplier i ≤ℤ pos 1073741824

-- a test of several parts: each part, and the order that it stands for
ruleset parts = (and_l, and_r, leb_yes, le_z_yes)

-- ---- ranges by row and column
abbrev range_at : Shape → ℕ → ℕ → Range
range_at shape row column = range_of (kind_at shape row column)

-- in the row of limit i
module _ (shape : Shape) (i : ℕ) where
  coefficient-range : (j : ℕ) → j < shape.materials → range_at shape (3 + i) j ≡ Coefficient from neg 1000 to pos 1000
  unfolding range_of ranges index_of
  coefficient-range j l = rw (coefficient-kind shape i j l)

  rhs-range : range_at shape (3 + i) shape.materials ≡ Rhs from neg 32000000 to pos 32000000
  unfolding range_of ranges index_of
  rhs-range = rw (rhs-kind shape i)

  start-range : range_at shape (3 + i) (shape.materials + 1) ≡ Start from pos 1 to pos 1073741824
  unfolding range_of ranges index_of
  start-range = rw (start-kind shape i)

-- v lies in r
record Within (r : Range) (v : ℤ) : Type 0 where
  low : r.least ≤ℤ v
  high : v ≤ℤ r.greatest

-- ---- figures
-- every fact of what stands under a key, by cases: 0, or the value of an entry with that key
module _ (S : Sheet) (key : ℕ) (Q : ℤ → Type 0) (absent : Q (pos 0)) where
  value-cases : (e : ℕ) → ((i : ℕ) → i < e → S.key i ≡ key → Q (S.value i)) → Q (value_under S e key)
  unfolding value_under
  value-cases zero present = absent
  value-cases (suc e) present =
      last (eqb (S.key e) key) (λ t. present e (lt-suc_self e) (eqb_yes t))
      (value-cases e (λ i l. present i (le_step l)))
    where
      last : (b : Bool) → (T b → Q (S.value e)) → Q (value_under S e key) → Q (cond b (S.value e) (value_under S e key))
      last true here before = here tt
      last false here before = before

module _ (S : Sheet) {bytes : ℕ} (h : Passed S bytes) where
  abbrev shape : Shape
  shape = S.sizes.shape

  abbrev n : ℕ
  n = shape.materials

  -- the value of an entry lies in the range at its row and column
  value_in : (i : ℕ) → i < S.entries → Within (range_at shape (row_of (S.key i)) (column_of (S.key i))) (S.value i)
  unfolding bad_value value_bad in_range
  value_in i l =
      let r = range_at shape (row_of (S.key i)) (column_of (S.key i)) in
      let (nonzero, good) = or_no (is_zero (S.value i)) (not (in_range r (S.value i))) (h.values i l) in
      search (T_not-not, parts)

  module _ (row column : ℕ) (l : column ≤ n + 1) where
    -- every fact of a figure, by cases: 0, or a value in the range at its row and column
    figure-cases : (Q : ℤ → Type 0) → Q (pos 0) → ((v : ℤ) → Within (range_at shape row column) v → Q v)
        → Q (table_of S (key_of row column))
    unfolding dimensions_in_range between
    figure-cases Q absent present =
        let few : n ≤ 32 = search parts in
        let (row_back, column-back) = key-parts row column (omega arith) in
        value-cases S (key_of row column) Q absent S.entries
        (λ i k e. present (S.value i) (rw (e, row_back, column-back) at (value_in i k)))

    -- a range from −a to a holds 0 too
    figure-bnd : {kind : Kind} (a : ℕ) → range_at shape row column ≡ kind from neg a to pos a
        → Bnd (table_of S (key_of row column)) a
    figure-bnd a e =
        figure-cases (λ v. Bnd v a) (bnd-of (pos 0) zero-le)
        (λ v w. let s = rw e at w in bnd-between s.low s.high)

  pub ranged : Accepted (problem S) S.sizes.steps
  unfolding problem_from dimensions_in_range parameters_in_range between kind_at range_of ranges index_of crossed
  ranged =
      let sizes = h.dimensions in
      let parameters = h.parameters in
      record {
        materials-some = search parts;
        materials-few = search parts;
        limits-few = search parts;
        numerator-some = search parts;
        numerator-small = search parts;
        scale-some = search parts;
        scale_small = search parts;
        steps-some = search parts;
        steps-few = search parts;
        cost-in = λ j l. figure-bnd 0 j (omega arith) 10000 refl;
        least-sign = λ j l.
            figure-cases 1 j (omega arith) (λ v. pos 0 ≤ℤ v) (le_z_yes tt) (λ v w. ≤ℤ-trans (le_z_yes tt) w.low);
        ordered = λ j l. lt_z_no (h.bounds j l);
        most-in = λ j l. figure-cases 2 j (omega arith) (λ v. v ≤ℤ pos 1000) (le_z_yes tt) (λ v w. w.high);
        coefficient-in = λ i _ j l. figure-bnd (3 + i) j (omega arith) 1000 (coefficient-range shape i j l);
        rhs-in = λ i _. figure-bnd (3 + i) n (omega arith) 32000000 (rhs-range shape i);
        start-sign = λ i _.
            figure-cases (3 + i) (n + 1) (le_refl _) (λ v. pos 0 ≤ℤ v) (le_z_yes tt)
            (λ v w. ≤ℤ-trans (le_z_yes tt) (rw (start-range shape i) at w).low);
        start-top = λ i _.
            figure-cases (3 + i) (n + 1) (le_refl _) (λ v. v ≤ℤ pos 1073741824) (le_z_yes tt)
            (λ v w. (rw (start-range shape i) at w).high);
      }

-- ---- problems that agree lie in the same ranges
pub accepted-same : {P Q : Problem} {k : ℕ} → Agree P Q → Accepted Q k → Accepted P k
accepted-same {P} {Q} same a = record {
  materials-some = rw same.materials a.materials-some;
  materials-few = rw same.materials a.materials-few;
  limits-few = rw same.limits a.limits-few;
  numerator-some = rw same.numerator a.numerator-some;
  numerator-small = rw same.numerator a.numerator-small;
  scale-some = rw same.scale a.scale-some;
  scale_small = rw same.scale a.scale_small;
  steps-some = a.steps-some;
  steps-few = a.steps-few;
  cost-in = λ j l. rw (same.cost j (material l)) (a.cost-in j (material l));
  least-sign = λ j l. rw (same.least j (material l)) (a.least-sign j (material l));
  ordered = λ j l. rw (same.least j (material l), same.most j (material l)) (a.ordered j (material l));
  most-in = λ j l. rw (same.most j (material l)) (a.most-in j (material l));
  coefficient-in = λ i h j l.
      rw (same.coefficient i j (limit h) (material l)) (a.coefficient-in i (limit h) j (material l));
  rhs-in = λ i h. rw (same.rhs i (limit h)) (a.rhs-in i (limit h));
  start-sign = λ i h. rw (same.starting_multiplier i (limit h)) (a.start-sign i (limit h));
  start-top = λ i h. rw (same.starting_multiplier i (limit h)) (a.start-top i (limit h));
}
  where
    material : {j : ℕ} → j < P.materials → j < Q.materials
    material l = rw same.materials at l

    limit : {i : ℕ} → i < P.limits → i < Q.limits
    limit h = rw same.limits at h
