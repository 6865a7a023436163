-- Several lines: line i is f i.
use Rattle.std.specs.Prelude.{ℕ, zero, suc, ◌+◌, ◌≤◌, ◌<◌, ◌≡◌, refl, List, ◌++◌}
use Rattle.std.proofs.Common.{ap, sym, ◌∙◌, add-one, arith}
use Rattle.rules.specs.Listing.{lines}
use Rattle.out_text.specs.declared.Text.{Text as Lent}
use Rattle.out_text.specs.Text.{Puts}
use Rattle.out_text.specs.Growing.{puts_none, puts-as, then}
use Rattle.out_text.specs.Grows.{Grows}

-- lines that agree at each place below n
pub lines-agree : (n : ℕ) (f g : ℕ → List ℕ) → ((i : ℕ) → i < n → f i ≡ g i) → lines n f ≡ lines n g
unfolding lines
lines-agree zero f g e = refl
lines-agree (suc n) f g e = λ k. lines-agree n f g (λ i h. e i (omega arith)) k ++ e n (omega arith) k

-- ---- a loop that puts one line after another

-- before turn i, the first i of n lines are put
pub record LinesPut (f : ℕ → List ℕ) (n : ℕ) (d₀ : List ℕ) (at : ℕ) (d : List ℕ) (end i : ℕ) : Type 0 where
  pub within : i ≤ n
  pub put : Puts (lines i f) d₀ at d end

-- before the first turn none is
pub no_line : {f : ℕ → List ℕ} {n : ℕ} {d : List ℕ} {at : ℕ} → LinesPut f n d at d at 0
unfolding lines
no_line = record { within = omega arith; put = puts_none }

-- line i is put after them
pub line-more : {f : ℕ → List ℕ} {n : ℕ} {d₀ d d' : List ℕ} {at end end' i : ℕ}
    → LinesPut f n d₀ at d end i → i < n → Puts (f i) d end d' end' → LinesPut f n d₀ at d' end' (i + 1)
unfolding lines
line-more {f} {i = i} t more p =
    record { within = omega arith; put = puts-as (ap (λ k. lines k f) (sym (add-one i))) (then t.put p) }

-- after the last turn all are
pub all_lines : {f : ℕ → List ℕ} {n : ℕ} {d₀ d : List ℕ} {at end i : ℕ}
    → LinesPut f n d₀ at d end i → n ≤ i → Puts (lines n f) d₀ at d end
all_lines {f} {n} {i = i} t stop =
    let all : i ≡ n = omega arith in
    puts-as (ap (λ k. lines k f) all) t.put

-- ---- the same of a text

-- before turn i, the first i of n lines are put
pub record LinesGrow (f : ℕ → List ℕ) (n : ℕ) (before after : Lent) (i : ℕ) : Type 0 where
  pub same_bytes : after.bytes.ghost_name ≡ before.bytes.ghost_name
  pub put : LinesPut f n before.bytes.now before.end after.bytes.now after.end i

-- before the first turn none is
pub grows-no_line : {f : ℕ → List ℕ} {n : ℕ} {t : Lent} → LinesGrow f n t t 0
grows-no_line = record { same_bytes = refl; put = no_line }

-- line i is put after them
pub grows-line : {f : ℕ → List ℕ} {n i : ℕ} {t u v : Lent}
    → LinesGrow f n t u i → i < n → Grows (f i) u v → LinesGrow f n t v (i + 1)
grows-line l more p =
    record { same_bytes = p.same_bytes ∙ l.same_bytes; put = line-more l.put more p.puts }

-- after the last turn all are
pub grows-lines : {f : ℕ → List ℕ} {n i : ℕ} {t u : Lent} → LinesGrow f n t u i → n ≤ i → Grows (lines n f) t u
grows-lines l stop = record { same_bytes = l.same_bytes; puts = all_lines l.put stop }
