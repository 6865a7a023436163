-- Where there is room and where there is none, the code does as the definition says.
use Rattle.std.proofs.Common.{refl, lt-ltb, le-ltb}
use Rattle.out_text.specs.Text.{put, puts}
use Rattle.out_text.proofs.Text.put_byte.Goals as goal

pub returns-then-self : goal.returns-then-self
unfolding put puts
returns-then-self c = record { same_bytes = refl; puts = record { is = simp (lt-ltb _ _ c.if-self.true) } }

pub returns-else-self : goal.returns-else-self
unfolding put puts
returns-else-self c = record { same_bytes = refl; puts = record { is = simp (le-ltb _ _ c.if-self.false) } }
