-- The word, the number, the place and the newline, one after the other.
use Rattle.std.proofs.Common.{rules, ◌≡◌, sym, ap, ◌∙◌}
use Rattle.rules.specs.Refusals.{Numbered, numbered}
use Rattle.rules.specs.Listing.{text, refusal_text}
use Rattle.out_text.specs.Growing.{puts-as}
use Rattle.out_text.specs.Grows.{grows-then, put-in}
use Rattle.out_lines.specs.Lines.{refusal-line}
use Rattle.out_lines.specs.LineLength.{length-refusal-text}
use Rattle.out_lines.proofs.put_refusal.Goals as goal

pub returns : goal.returns
unfolding numbered text
returns c =
    let place = c.args.refusal.place in
    let number = c.from in
    let read : Numbered = record { number = number.result; place = place } in
    let is : refusal_text read ≡ _ = ap (λ v. refusal_text (record { number = v; place = place })) number.ensures in
    let number_put = c.put_size.ensures in
    let place-put = c.put_size-2.ensures in
    let numbers = grows-then (grows-then c.put_bytes.ensures number_put.puts) place-put.puts in
    let put = put-in (grows-then numbers c.put_byte.ensures) (search rules) in
    record {
      puts = puts-as (refusal-line number.result place ∙ is) put;
      short = rw (sym is) (length-refusal-text read number_put.v_len_bound place-put.v_len_bound);
    }
