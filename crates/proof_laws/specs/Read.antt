-- What reading one thing gives: the thing, or the number of a refusal.
use Rattle.std.specs.Prelude.{ℕ, Bool}
use Rattle.std.proofs.Math.Path.{◌≡◌, refl}
use Rattle.std.proofs.Math.Bool.{true, false}
use Rattle.std.proofs.Common.{arith}

pub data Read (A : Type 0) : Type 0 where
  gives : A → Read A
  refused : ℕ → Read A

module _ {A : Type 0} where
  -- what is read, unless a test refuses it with this number
  unfoldable pub unless : ℕ → Bool → Read A → Read A
  unless number true r = refused number
  unless number false r = r

  -- ---- what the answer says of the test
  pub refused_says : (number k : ℕ) (b : Bool) (x : A) → unless number b (gives x) ≡ refused k → b ≡ true
  unfolding unless
  refused_says number k true x h = refl
  refused_says number k false x h = let z : ◌≡◌ {A = ℕ} 0 1 = cc in absurd (omega arith)

  pub gives-says : (number : ℕ) (b : Bool) (r : Read A) (y : A) → unless number b r ≡ gives y
      → (b ≡ false) × (r ≡ gives y)
  unfolding unless
  gives-says number true r y h = let z : ◌≡◌ {A = ℕ} 0 1 = cc in absurd (omega arith)
  gives-says number false r y h = (refl, h)

  pub same_gives : (x y : A) → gives x ≡ gives y → x ≡ y
  same_gives x y h = cc

  -- ---- and what the test says of the answer
  pub unless-yes : (number : ℕ) {b : Bool} (r : Read A) → b ≡ true → unless number b r ≡ refused number
  unfolding unless
  unless-yes number r h = rw h

  pub unless-no : (number : ℕ) {b : Bool} (r : Read A) → b ≡ false → unless number b r ≡ r
  unfolding unless
  unless-no number r h = rw h
