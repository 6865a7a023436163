-- The test compares the amounts as they stand in the table.
use Rattle.std.proofs.Common.{◌≡◌, ◌<◌, ℕ, ℤ, List, Bool, true, false, arith, rules, sym, ap, ◌∙◌, SFits, to_z, of_z}
use Rattle.std.proofs.Common.{w32, Err}
use Rattle.std.proofs.lemmas.Int.{to_z-of_z}
use Rattle.std.specs.Int.Signed.{lt_z}
use Rattle.rules.specs.Notation.{at}
use Rattle.rules.specs.Refusals.{number_of, numbered, refusal_of, crossed}
use Rattle.sheet_table.specs.Tabled.{place_at, table_in, table_at}
use Rattle.proof_laws.specs.FirstPlace.{first-start, first-end, scan-more, scan-found}
use Rattle.sheet_checks.specs.Bounds.{crossed_refusal}
use Rattle.sheet_checks.proofs.check_bounds.Goals as goal

test-is : (table : List ℤ) (j least most : ℕ) (b : Bool) → j < 34 → least ≡ place_at 1 j → most ≡ place_at 2 j
    → SFits w32 (at table least) → SFits w32 (at table most)
    → lt_z (to_z w32 (of_z w32 (at table most))) (to_z w32 (of_z w32 (at table least))) ≡ b
    → crossed (table_in table) j ≡ b
unfolding crossed
test-is table j least most b l e f least-fits most-fits h =
    let most-is = table_at table 2 l ∙ ap (at table) (sym f) in
    let least-is = table_at table 1 l ∙ ap (at table) (sym e) in
    (λ i. lt_z (most-is i) (least-is i))
    ∙ (simp (to_z-of_z w32 (at table most) most-fits, to_z-of_z w32 (at table least) least-fits) at h)

pub loop-j-init : goal.loop-j-init
loop-j-init c = first-start _

pub returns-then-most-least : goal.returns-then-most-least
unfolding refusal_of numbered number_of crossed_refusal
returns-then-most-least c =
    let t = c.args.table.now in
    let j = c.loop-j.j in
    let above =
    test-is t j c.place_at.result c.place_at-in-loop-j.result true (omega (arith, c.requires.narrow))
    c.place_at.ensures c.place_at-in-loop-j.ensures (search rules) (search rules) c.if-most-least.true in
    ap (λ r. refusal_of (Err r)) c.at.ensures
    ∙ sym (scan-found 7 (crossed (table_in t)) c.args.n (omega arith) c.loop-j.invariant above)

pub loop-j-preserved : goal.loop-j-preserved
loop-j-preserved c =
    let t = c.args.table.now in
    let below =
    test-is t c.loop-j.j c.place_at.result c.place_at-in-loop-j.result false (omega (arith, c.requires.narrow))
    c.place_at.ensures c.place_at-in-loop-j.ensures (search rules) (search rules) c.if-most-least.false in
    scan-more 7 (crossed (table_in t)) c.loop-j.invariant below

pub returns : goal.returns
unfolding refusal_of crossed_refusal
returns c =
    let all : c.loop-j.j ≡ c.args.n = omega arith in
    sym (first-end _ all c.loop-j.invariant)
