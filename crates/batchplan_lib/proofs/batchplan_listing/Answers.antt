-- The sheet is planned into a buffer of its own, and the listing is written out of the answer and that buffer.
use Rattle.std.proofs.Common.{rules, ◌≡◌, ◌≤◌, length, subst}
use Rattle.rules.specs.Record.{record_length, longest_record}
use Rattle.rules.specs.Answers.{outcome}
use Rattle.rules.specs.Listing.{text_from, listing, Listed}
use Rattle.out_listing.specs.ListingOfRecord.{listing-is}
use Rattle.batchplan_lib.proofs.batchplan_listing.Goals as goal

pub returns : goal.returns
unfolding record_length
returns c =
    let is : text_from (outcome c.plan-answer.result) c.plan-answer.new.record
    ≡ listing c.args.sheet.now longest_record = listing-is c.plan-answer.ensures (search rules) in
    record {
      listed = subst (λ t. Listed t c.args.text.now c.write_listing.new.out c.write_listing.result) is
          c.write_listing.ensures.listed;
      bounded = subst (λ t. length t ≤ 4096) is c.write_listing.ensures.record_len_bound;
    }
