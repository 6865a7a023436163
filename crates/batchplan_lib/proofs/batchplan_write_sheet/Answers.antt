-- The numbers are those of what the writer's answer stands for.
use Rattle.batchplan_lib.specs.Wrote.{wrote_of}
use Rattle.batchplan_lib.proofs.batchplan_write_sheet.Goals as goal

pub returns : goal.returns
returns c = wrote_of _ _ c.write_sheet.ensures c.from-pair.ensures
