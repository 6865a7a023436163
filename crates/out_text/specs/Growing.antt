-- Laws of a text that grows.
use Rattle.std.specs.Prelude.{ℕ, ◌+◌, ◌<◌, ◌≤◌, ◌≡◌, refl, true, false, cond, List, [], ◌∷◌, ◌++◌, length, take, drop}
use Rattle.std.specs.Prelude.{set, ltb}
use Rattle.std.proofs.Common.{sym, ap, ◌∙◌, subst, append-nil, add-zero, zero-add, add-suc, suc-add, add-one, arith}
use Rattle.std.proofs.Common.{length-append, length-set, take_at, lt-ltb}
use Rattle.std.proofs.Math.Seq.{set-append_seam, append_snoc}
use Rattle.out_text.specs.Text.{Text, put, puts, Puts}

-- ---- one call after another

-- putting two lists of bytes joined is putting the first and then the second
puts-append : (xs ys : List ℕ) (t : Text) → puts (xs ++ ys) t ≡ puts ys (puts xs t)
unfolding puts
puts-append [] ys t = refl
puts-append (x ∷ xs) ys t = puts-append xs ys (put x t)

-- before the first call, nothing has been put
pub puts_none : {d : List ℕ} {a : ℕ} → Puts [] d a d a
unfolding puts
puts_none = record { is = refl }

-- two calls, the second where the first ended, put the bytes of both
pub then : {xs ys d d' d'' : List ℕ} {a a' a'' : ℕ}
    → Puts xs d a d' a' → Puts ys d' a' d'' a'' → Puts (xs ++ ys) d a d'' a''
then {xs} {ys} first second = record { is = second.is ∙ ap (puts ys) first.is ∙ sym (puts-append xs ys _) }

-- the same bytes, named in another way
pub puts-as : {xs ys d d' : List ℕ} {a a' : ℕ} → xs ≡ ys → Puts xs d a d' a' → Puts ys d a d' a'
puts-as {d = d} {d' = d'} {a = a} {a' = a'} e p = subst (λ bs. Puts bs d a d' a') e p

-- ---- how many bytes are lent

length-put : (b : ℕ) (t : Text) → length (put b t).bytes ≡ length t.bytes
unfolding put
length-put b t =
    let longer : Text = record { bytes = set t.bytes t.end b; end = t.end + 1 } in
    elim (ltb t.end (length t.bytes)) as (λ room. length (cond room longer t).bytes ≡ length t.bytes) [
      | true ↦ length-set t.bytes t.end b
      | false ↦ refl
    ]

-- putting keeps the number of bytes
length-puts : (bs : List ℕ) (t : Text) → length (puts bs t).bytes ≡ length t.bytes
unfolding puts
length-puts [] t = refl
length-puts (b ∷ bs) t = length-puts bs (put b t) ∙ length-put b t

-- for a proof that has no length of the lent bytes from the kit: and so does a call
pub length-kept : {bs d d' : List ℕ} {a a' : ℕ} → Puts bs d a d' a' → length d' ≡ length d
length-kept {bs} p = ap (λ (t : Text). length t.bytes) p.is ∙ length-puts bs _

-- ---- a text that fits

-- a byte put after `front` takes the place of x
put-after : (front : List ℕ) (b x : ℕ) (d : List ℕ)
    → put b (record { bytes = front ++ x ∷ d; end = length front })
    ≡ record { bytes = front ++ (b ∷ []) ++ d; end = length (front ++ (b ∷ [])) }
unfolding put
put-after front b x d =
    let room : length front < length front + length (x ∷ d) = omega arith in
    simp (length-append, lt-ltb _ _ room, set-append_seam, append_snoc)

-- a text put after `front` takes the place of the first bytes of d, where it fits into d
whole-after : (front t d : List ℕ) → length t ≤ length d
    → puts t (record { bytes = front ++ d; end = length front })
    ≡ record { bytes = front ++ t ++ drop (length t) d; end = length front + length t }
unfolding puts
whole-after front [] d h = simp (append-nil, add-zero)
whole-after front (b ∷ t) [] h = absurd (omega arith)
whole-after front (b ∷ t) (x ∷ d) h =
    ap (puts t) (put-after front b x d)
    ∙ whole-after (front ++ (b ∷ [])) t d (omega arith)
    ∙ simp (append_snoc, length-append, add-one, suc-add, add-suc)

-- a text put at the start of d takes the place of the first bytes of d, where it fits into d
whole : (t d : List ℕ) → length t ≤ length d
    → puts t (record { bytes = d; end = 0 }) ≡ record { bytes = t ++ drop (length t) d; end = length t }
whole t d h = whole-after [] t d h ∙ simp zero-add

-- what calls leave that began at place 0, where what they put fits
pub whole-put : {t d d' : List ℕ} {r : ℕ} → Puts t d 0 d' r → length t ≤ length d
    → (d' ≡ t ++ drop (length t) d) × (r ≡ length t)
whole-put {t} {d} p h =
    let e = p.is ∙ whole t d h in
    (ap (λ (t : Text). t.bytes) e, ap (λ (t : Text). t.end) e)

-- so that the text is their front
pub front-put : {t d d' : List ℕ} {r : ℕ} → Puts t d 0 d' r → length t ≤ length d → (take r d' ≡ t) × (r ≡ length t)
front-put {t} {d} p h =
    let (is, ends) = whole-put p h in
    ((λ k. take (ends k) (is k)) ∙ take_at t (drop (length t) d) (length t) refl, ends)
