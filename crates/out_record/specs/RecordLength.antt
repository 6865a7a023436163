-- How many bytes the record has.
use Rattle.std.specs.Prelude.{◌≡◌, ℕ, length}
use Rattle.std.proofs.Common.{arith, length-append}
use Rattle.rules.specs.Run.{Plan}
use Rattle.rules.specs.Record.{record_of, record_length}
use Rattle.bytes_write.specs.Number.{length-unsigned, length-signed, length_fields}

-- the record of n materials and m limits
pub length-record : (p : Plan) (n m : ℕ)
    → length p.sums ≡ n → length p.multipliers ≡ m → length p.residual_totals ≡ m
    → length (record_of p) ≡ record_length n m
unfolding record_of record_length
length-record p n m s t r =
    simp (length-append, length-unsigned, length-signed, length_fields, s, t, r) (omega arith)
