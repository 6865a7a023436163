-- The text that is written, or the line of the refusal.
use Rattle.out_mps.specs.Printed.{text-printed, refusal-printed}
use Rattle.out_mps.proofs.write_printed.Goals as goal

pub returns-in-Ok-clause-listed : goal.returns-in-Ok-clause-listed
returns-in-Ok-clause-listed c = (text-printed c.args.sheet.now c.requires c.in-Ok.ensures).0

pub returns-in-Ok-clause-sheet_len_bound : goal.returns-in-Ok-clause-sheet_len_bound
returns-in-Ok-clause-sheet_len_bound c = (text-printed c.args.sheet.now c.requires c.in-Ok.ensures).1

pub returns-in-Err-clause-listed : goal.returns-in-Err-clause-listed
returns-in-Err-clause-listed c =
    (refusal-printed c.args.sheet.now c.requires c.in-Err.ensures c.put_refusal.ensures).0

pub returns-in-Err-clause-sheet_len_bound : goal.returns-in-Err-clause-sheet_len_bound
returns-in-Err-clause-sheet_len_bound c =
    (refusal-printed c.args.sheet.now c.requires c.in-Err.ensures c.put_refusal.ensures).1
