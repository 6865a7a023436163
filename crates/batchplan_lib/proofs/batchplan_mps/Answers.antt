-- The numbers are those of what the writer's answer stands for.
use Rattle.batchplan_lib.specs.WroteText.{wrote_text-of}
use Rattle.batchplan_lib.proofs.batchplan_mps.Goals as goal

pub returns : goal.returns
returns c = wrote_text-of _ c.write_mps.ensures c.from-told.ensures
