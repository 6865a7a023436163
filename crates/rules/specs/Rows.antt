-- How a table of sheets is written down and held against the definitions. Only worked sheets and points use it.
use Rattle.std.specs.Prelude.{ltb, eqb, Result}
use Rattle.std.specs.Prelude.{ℕ, ◌+◌, ◌-◌, ◌*◌, ◌≡◌, cond, List, [], ◌∷◌, ◌++◌, map, length, replicate, drop, ℤ, pos}
use Prim.Native.String.{String}
use Rattle.rules.specs.Notation.{is_zero, maxℤ, sum_to, any_below, tabulate}
use Rattle.rules.specs.declared.PlanFigures.{PlanFigures}
use Rattle.rules.specs.declared.Refusal.{Refusal}
use Rattle.rules.specs.Problem.{cost_of, load_of}
use Rattle.rules.specs.Bytes.{unsigned_at, signed_of, signed_at, unsigned_bytes, signed_bytes, laid}
use Rattle.rules.specs.Sheet.{header_length, sized, Table, value_under, problem_from}
use Rattle.rules.specs.Encoder.{laid_out, sizes_with, picked, keys_of, written}
use Rattle.rules.specs.Ranges.{ranges, index_of, range_of, kind_at, in_range, between, dimensions_in_range}
use Rattle.rules.specs.Ranges.{parameters_in_range}
use Rattle.rules.specs.Step.{reduced_cost, amount, residual, dual_value, look_at, greatest_cost}
use Rattle.rules.specs.Step.{cheapest_cost, infeasible, moved, next, diverged}
use Rattle.rules.specs.Run.{starting_state, state_after, look_after, closing_value, low_after, gap_of, plan_after}
use Rattle.rules.specs.Record.{record_of, record_length, recorded, holds_record}
use Rattle.rules.specs.Refusals.{number_of, numbered, refuse, ◌otherwise◌, first_below, no_figure_at, not_above}
use Rattle.rules.specs.Refusals.{bad_key, value_bad, bad_value, crossed, sizes_refusal, key_refusal, value_refusal}
use Rattle.rules.specs.Refusals.{bound_refusal, layout_refusal}
use Rattle.rules.specs.Answers.{outcome, look_refusal, refusal_at, step_refusal, run_refusal, plan_refusal}
use Rattle.rules.specs.Answers.{outcome_of, plan_of, refusal, answer_to, answer, buffer_of, buffer_after}
use Rattle.rules.specs.Listing.{text, digits, decimal, spaced, line, lines, plan_text, refusal_text, text_of}
use Rattle.rules.specs.Listing.{listing, text_from}

-- ---- how a row is written

-- key : value
infix 70 ◌∶◌
pub record Entry : Type 0 where
  pub key : ℕ
  pub value : ℤ

abbrev pub ◌∶◌ : ℕ → ℤ → Entry
key ∶ value = record { key = key; value = value }

-- the table that has these entries, and 0 under every other key
unfoldable pub entered : List Entry → Table
entered [] key = pos 0
entered (x ∷ xs) key = cond (eqb x.key key) x.value (entered xs key)

-- sizes and no entry, with any e
abbrev pub header : List ℕ → List ℕ
header sizes = laid_out sizes [] []

-- sizes and entries as they are given, in any order, with any keys and values
abbrev pub encode : (n m p D k : ℕ) → List Entry → List ℕ
encode n m p D k entries =
    laid_out (sizes_with (sized n m p D k) (length entries)) (map (λ x. x.key) entries) (map (λ x. x.value) entries)

-- bytes in hexadecimal, with spaces between the fields
unfoldable pub nibble : ℕ → ℕ
nibble c = cond (ltb c 58) (c - 48) (c - 87)

unfoldable pub unspaced : List ℕ → List ℕ
unspaced [] = []
unspaced (c ∷ cs) = cond (eqb c 32) (unspaced cs) (c ∷ unspaced cs)

unfoldable pub pairs : List ℕ → List ℕ
pairs [] = []
pairs (c ∷ []) = []
pairs (c ∷ d ∷ cs) = (16 * nibble c + nibble d) ∷ pairs cs

abbrev pub hex : String → List ℕ
hex s = pairs (unspaced (text s))

-- A sheet and the length of the lent buffer; and what must come out: the answer, the record's bytes (none for a
-- refusal) and the listing.
pub record Row : Type 0 where
  pub sheet : List ℕ
  pub room : ℕ
  pub answer : Result PlanFigures Refusal
  pub bytes : List ℕ
  pub listing : List ℕ

-- ---- how a row is held against the definitions

-- the lent buffer
abbrev pub lent : ℕ → List ℕ
lent room = replicate room 170

-- the buffer afterwards, as the row says it
abbrev pub after : Row → List ℕ
after r = r.bytes ++ drop (length r.bytes) (lent r.room)

-- What the definitions give is what the row says: the answer, the buffer afterwards, the listing, and the listing out
-- of that answer and that buffer. Whoever unfolds it computes with them all.
unfoldable pub Holds : Row → Type 0
unfolding
    header_length is_zero laid laid_out picked keys_of written entered nibble unspaced pairs outcome numbered number_of
    maxℤ sum_to tabulate cost_of load_of unsigned_at signed_of signed_at unsigned_bytes signed_bytes value_under
    problem_from ranges index_of range_of kind_at in_range between dimensions_in_range parameters_in_range any_below
    reduced_cost amount residual dual_value look_at greatest_cost cheapest_cost infeasible moved next diverged
    starting_state state_after look_after closing_value low_after gap_of plan_after record_of record_length recorded
    holds_record refuse ◌otherwise◌ first_below no_figure_at not_above bad_key value_bad bad_value crossed sizes_refusal
    key_refusal value_refusal bound_refusal layout_refusal look_refusal refusal_at step_refusal run_refusal plan_refusal
    outcome_of plan_of refusal answer_to answer buffer_of buffer_after text digits decimal spaced line lines plan_text
    refusal_text text_of listing text_from
Holds r =
    (answer r.sheet r.room ≡ outcome r.answer) ×
    (buffer_after r.sheet (lent r.room) ≡ after r) ×
    (listing r.sheet r.room ≡ r.listing) ×
    (text_from (outcome r.answer) (after r) ≡ r.listing)

-- every row of a table holds
unfoldable pub AllHold : List Row → Type 0
AllHold [] = Unit {0}
AllHold (r ∷ rs) = Holds r × AllHold rs

-- the two of a product: a row that holds, and those after it
infixr 20 ◌and◌
abbrev pub ◌and◌ : {A B : Type 0} → A → B → A × B
a and b = (a, b)
