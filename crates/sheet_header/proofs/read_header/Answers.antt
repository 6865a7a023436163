-- Six numbers of 2 bytes, where there are so many bytes.
use Rattle.std.proofs.Common.{sym, ◌∙◌, lt-ltb, le-ltb}
use Rattle.rules.specs.Sheet.{header_length}
use Rattle.proof_laws.specs.Read.{gives, unless-yes, unless-no}
use Rattle.sheet_header.specs.Header.{header_answered, header_read}
use Rattle.sheet_header.proofs.read_header.Goals as goal

pub returns-then-s-lt-HEADER : goal.returns-then-s-lt-HEADER
unfolding header_answered header_read header_length
returns-then-s-lt-HEADER c = sym (unless-yes 1 _ (lt-ltb _ _ c.if-s-lt-HEADER.true))

pub returns : goal.returns
unfolding header_answered header_read header_length
returns c =
    (λ i. gives (record {
      sizes = record {
        shape = record { materials = c.size_at.ensures.is i; limits = c.size_at-2.ensures.is i };
        numerator = c.size_at-3.ensures.is i;
        scale = c.size_at-4.ensures.is i;
        steps = c.size_at-5.ensures.is i;
      };
      entries = c.size_at-6.ensures.is i;
      length = header_length;
    }))
    ∙ sym (unless-no 1 _ (le-ltb _ _ c.if-s-lt-HEADER.false))
