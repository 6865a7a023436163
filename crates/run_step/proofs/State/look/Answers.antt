-- The look is that of the run after t steps, and its test is that of T4.6.
use Rattle.std.proofs.Common.{sym, ◌∙◌, rules, SFits, to_z-of_z}
use Rattle.std.specs.Int.{w64}
use Rattle.run_step.specs.Looks.{look-ready, look-of-run, test-of-run}
use Rattle.run_step.proofs.State.look.Goals as goal

pub look_at-value-requires : goal.look_at-value-requires
look_at-value-requires c = rw (c.requires.no-amounts, c.requires.no-residuals) (look-ready c.requires.ready)

pub returns-then-greatest-value : goal.returns-then-greatest-value
returns-then-greatest-value c =
    let v-fits : SFits w64 c.look_at-value.result = search rules in
    let look = look-of-run c.requires.ready c.look_at-value.ensures in
    let test = rw (to_z-of_z c.ranges.greatest, to_z-of_z v-fits) at c.if-greatest-value.true in
    record {
      amounts-are = look.amounts-are;
      residuals-are = look.residuals-are;
      back = record { test = sym (test-of-run c.requires.ready look) ∙ test; is = c.at.ensures };
    }

pub returns : goal.returns
returns c =
    let v-fits : SFits w64 c.look_at-value.result = search rules in
    let look = look-of-run c.requires.ready c.look_at-value.ensures in
    let test = rw (to_z-of_z c.ranges.greatest, to_z-of_z v-fits) at c.if-greatest-value.false in
    record {
      amounts-are = look.amounts-are;
      residuals-are = look.residuals-are;
      back = record {
        test = sym (test-of-run c.requires.ready look) ∙ test;
        is = to_z-of_z v-fits ∙ look.value-is;
      };
    }
