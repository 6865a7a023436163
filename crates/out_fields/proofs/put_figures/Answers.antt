-- Figure i fits its bytes, and is written.
use Rattle.std.specs.Prelude.{get_or}
use Rattle.std.proofs.Common.{◌≡◌, ◌∙◌, ◌<◌, ap, sym, ℕ, ℤ, pos, List, length, map, FitsSigned, w64, rules}
use mir.Facts.{to_z-of_z}
use Rattle.std.proofs.lemmas.List.{get_or-map, length-map}
use Rattle.rules.specs.Notation.{at}
use Rattle.bytes_write.specs.Written.{written}
use Rattle.out_fields.specs.Fields.{all-first}
use Rattle.out_fields.proofs.FieldsPut.{no_field, field-more, all-fields}
use Rattle.out_fields.proofs.put_figures.Goals as goal

-- the number of what stands at place i
number_at : {X : Type 0} (number : X → ℤ) (xs : List X) (i : ℕ) {j : ℕ} {r : ℤ} {x : X}
    → r ≡ number x → x ≡ get_or xs j x → j ≡ i → i < length xs → r ≡ at (map number xs) i
number_at number xs i {x = x} is stands same inside =
    is ∙ ap number (stands ∙ ap (λ (k : ℕ). get_or xs k x) same) ∙ sym (get_or-map number xs i x (pos 0) inside)

pub loop-i-init : goal.loop-i-init
loop-i-init g c = no_field

pub loop-i-preserved : goal.loop-i-preserved
loop-i-preserved g c =
    let F = g.F.Figure in
    let figures = c.args.figures.now in
    let wide : FitsSigned w64 c.wide.result = search rules in
    let number : c.wide.result ≡ at (map F.number figures) c.loop-i.i =
    search (rules, number_at F.number figures c.loop-i.i) in
    let put = simp (to_z-of_z wide) at c.put_signed.ensures in
    let wrote = simp (number, c.WIDTH-width.ensures) at put in
    field-more c.loop-i.invariant c.loop-i-test.true wrote c.put_signed.auto.d

pub returns : goal.returns
returns g c =
    let F = g.F.Figure in
    let numbers = map F.number c.args.figures.now in
    let all = all-first F.WIDTH (length c.args.figures.now) numbers (sym (length-map c.args.figures.now F.number)) in
    all-fields c.loop-i.invariant c.loop-i-test.false ∙ ap (λ (bytes : List ℕ). written bytes c.args.d.now) all
