use Rattle.std.proofs.Common.{◌≡◌, ℕ, suc, ◌+◌, ◌-◌, ◌*◌, ◌^◌, ◌<◌, List, [], ◌∷◌, ◌++◌, length, get_or, take, drop}
use Rattle.std.proofs.Common.{sym, ap, ◌∙◌, arith, get_or-drop, length-drop, length-take-le, Fits, w8}
use Rattle.std.proofs.Math.Nat.{pow-succ', pow-le-pow_right}
use Rattle.std.proofs.lemmas.List.{take_more, same_from_push, length_push}
use Rattle.rules.specs.Bytes.{unsigned_at}
use Rattle.bytes_read.specs.Inside.{Inside}
use Rattle.bytes_read.proofs.unsigned_at.Invariants.{Turn}
use Rattle.bytes_read.proofs.unsigned_at.Goals as goal

-- no byte is taken yet
start : {s left : List ℕ} {at width : ℕ} (from n : ℕ) → Inside width s at → left ≡ take n (drop from s)
    → from ≡ at → n ≡ width → Turn s at width 0 left
unfolding unsigned_at
start {s} {left} {at} {width} from n asked part begins ends =
    let all : left ≡ take width (drop at s) = part ∙ (λ i. take (ends i) (drop (begins i) s)) in
    let long : length left ≡ width =
    ap length all ∙ length-take-le width (drop at s) (omega (arith, asked.ends, length-drop at s)) in
    let none : width - length left ≡ 0 = omega arith in
    record {
      within = omega arith;
      is = all ∙ ap (λ (k : ℕ). take k (drop at s)) (sym long);
      number = record { is = rw none; small = rw none (omega arith) };
    }

-- what a turn does, where `byte` is the last of those that are left and `rest` those before it
record More (s : List ℕ) (at width value byte : ℕ) (rest : List ℕ) : Type 0 where
  pub room : value < 256 ^ 7
  pub small : byte < 256
  pub more : Turn s at width (256 * value + byte) rest

more : {s left : List ℕ} {at width value : ℕ} (rest : List ℕ) (byte : ℕ) → Inside width s at
    → ((i : ℕ) → Fits w8 (get_or s i 0)) → Turn s at width value left → left ≡ rest ++ byte ∷ []
    → More s at width value byte rest
unfolding unsigned_at
more {s} {left} {at} {width} {value} rest byte asked bytes t last =
    let k = length rest in
    let taken = width - length left in
    let long : length left ≡ k + 1 = ap length last ∙ length_push rest byte in
    let there : k < length (drop at s) = omega (arith, length-drop at s, t.within, asked.ends) in
    let same = same_from_push rest (take k (drop at s)) byte (get_or (drop at s) k 0)
    (sym last ∙ t.is ∙ ap (λ (n : ℕ). take n (drop at s)) long ∙ take_more (drop at s) k 0 there) in
    let read : byte ≡ get_or s (at + k) 0 = same.1 ∙ get_or-drop at s k 0 in
    let power = pow-le-pow_right {n = 256} (omega arith) {i = taken} {j = 7} (omega (arith, asked.width.narrow)) in
    let small : byte < 256 = omega (arith, read, bytes (at + k)) in
    let wider : width - k ≡ suc taken = omega (arith, t.within) in
    let next : at + k + 1 ≡ at + length left = omega arith in
    record {
      room = omega (arith, power, t.number.small);
      small = small;
      more = record {
        within = omega (arith, t.within);
        is = same.0;
        number = record {
          is = rw (wider, next, t.number.is) (omega (arith, read));
          small = rw (wider, pow-succ' 256 taken) (omega (arith, t.number.small));
        };
      };
    }

pub loop-byte-init : goal.loop-byte-init
loop-byte-init c =
    rw (c.into_iter-byte-iterator.ensures.into_iter_gives, c.rev-byte-items.ensures.source)
    (start _ _ c.requires c.iter.ensures.rest (omega arith) (omega arith))

pub overflow_mul-value : goal.overflow_mul-value
overflow_mul-value c =
    let m = more _ _ c.requires c.type_inv.s c.loop-byte.invariant c.in-Some.ensures.steps in
    record { fits = omega (arith, m.room) }

pub overflow_add-value : goal.overflow_add-value
overflow_add-value c =
    let m = more _ _ c.requires c.type_inv.s c.loop-byte.invariant c.in-Some.ensures.steps in
    record { fits = omega (arith, m.room, m.small) }

pub loop-byte-preserved : goal.loop-byte-preserved
loop-byte-preserved c =
    rw c.from.ensures (more _ _ c.requires c.type_inv.s c.loop-byte.invariant c.in-Some.ensures.steps).more
