-- A line by its word's bytes, and a text from place 0 on.
use Rattle.std.specs.Prelude.{ℕ, ◌+◌, ◌≤◌, ◌<◌, ◌≡◌, refl, List, [], ◌∷◌, ◌++◌, length, take, get_or, ℤ, pos}
use Rattle.std.proofs.Common.{sym, ap, subst, ◌∙◌, append_assoc, append-nil, add-one, take-suc}
use Rattle.rules.specs.Listing.{text, decimal, spaced, line, refusal_text}
use Rattle.out_text.specs.Text.{Puts}

-- a line of a word that is given by its bytes
unfoldable pub line_of : List ℕ → List ℤ → List ℕ
line_of word zs = word ++ spaced zs ++ text "\n"

-- a text of at most 4,096 bytes was put from place 0 on
pub record Begins (t before after : List ℕ) (result : ℕ) : Type 0 where
  pub puts : Puts t before 0 after result
  pub short : length t ≤ 4096

-- the same text, named in another way
pub begins-as : {t u d d' : List ℕ} {end : ℕ} → t ≡ u → Begins t d d' end → Begins u d d' end
begins-as {d = d} {d' = d'} {end = end} e p = subst (λ t. Begins t d d' end) e p

-- the numbers of two lists, one after the other
spaced-append : (xs ys : List ℤ) → spaced (xs ++ ys) ≡ spaced xs ++ spaced ys
unfolding spaced text decimal
spaced-append [] ys = refl
spaced-append (x ∷ xs) ys =
    ap (λ zs. text " " ++ decimal x ++ zs) (spaced-append xs ys)
    ∙ sym (append_assoc (text " " ++ decimal x) (spaced xs) (spaced ys))

-- one number more
pub spaced-next : (zs : List ℤ) (i : ℕ) (z : ℤ) → i < length zs
    → spaced (take (i + 1) zs) ≡ spaced (take i zs) ++ (text " " ++ decimal (get_or zs i z))
unfolding spaced text decimal
spaced-next zs i z h =
    ap (λ k. spaced (take k zs)) (add-one i)
    ∙ ap spaced (take-suc zs i z h)
    ∙ spaced-append (take i zs) (get_or zs i z ∷ [])
    ∙ ap (λ s. spaced (take i zs) ++ s) (append-nil (text " " ++ decimal (get_or zs i z)))

-- the parts of a refusal's line, one after the other
pub refusal-line : (number place : ℕ)
    → text "refused" ++ (text " " ++ decimal (pos number)) ++ (text " " ++ decimal (pos place)) ++ text "\n"
    ≡ refusal_text (record { number = number; place = place })
unfolding refusal_text line spaced text decimal
refusal-line number place =
    let second : List ℕ = text " " ++ decimal (pos place) in
    let first : List ℕ = text " " ++ decimal (pos number) in
    ap (λ s. s ++ text "\n")
    (append_assoc (text "refused") first second ∙ ap (λ s. text "refused" ++ (first ++ s)) (sym (append-nil second)))
