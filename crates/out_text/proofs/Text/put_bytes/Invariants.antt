-- Before each turn the bytes from this one on are left to put.
use Rattle.std.proofs.Common.{◌≡◌, drop}
use Rattle.out_text.specs.StillToPut.{StillToPut}
use Rattle.out_text.proofs.Text.put_bytes.Given as goal

abbrev pub invariant-loop-byte : goal.invariant-loop-byte
invariant-loop-byte l = record {
  same_bytes : l.self.bytes.ghost_name ≡ l.fn.self.bytes.ghost_name;
  left : StillToPut
      l.bytes l.fn.self.bytes.now l.fn.self.end
      (drop l.byte-index l.bytes) l.self.bytes.now l.self.end;
}
