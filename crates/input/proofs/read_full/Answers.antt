-- `input::read_full` meets its contract: what one read gave follows the bytes that were there.
use Rattle.std.proofs.Common.{◌≡◌, ℕ, ◌+◌, ◌≤◌, List, ◌++◌, length, take, drop, Option, Some, None, append_assoc, sym, ap, ◌∙◌, rules}
use Rattle.std.proofs.Math.Seq.{take-append-add, length-take-le}
use Rattle.std.proofs.lemmas.List.{take-append-le}
use Rattle.std.specs.Io.KnownBytes.{Consumes}
use borrow.Rule.Slice.PartMut.{put_mid}
use Rattle.input.proofs.read_full.Goals as goal

-- known bytes that begin with xs, and then with ys
then : (a b c : Option (List ℕ)) (xs ys : List ℕ) → Consumes a b xs → Consumes b c ys → Consumes a c (xs ++ ys)
then None b c xs ys h k = tt
then (Some x) None c xs ys h k = absurd h
then (Some x) (Some y) None xs ys h k = absurd k
then (Some x) (Some y) (Some z) xs ys h k = h ∙ ap (λ (l : List ℕ). xs ++ l) k ∙ sym (append_assoc xs ys z)

-- the first n and k more, where ys stands from the n-th on
take_more : (xs ys : List ℕ) (n m k : ℕ) → n ≤ length xs → k ≤ length ys → take (n + k) (put_mid n m xs ys) ≡ take n xs ++ take k ys
take_more xs ys n m k a b =
    let rest = drop m (drop n xs) in
    let size = length-take-le n xs a in
    ap (λ (i : ℕ). take (i + k) (take n xs ++ (ys ++ rest))) (sym size)
    ∙ take-append-add (take n xs) (ys ++ rest) k
    ∙ ap (λ (l : List ℕ). take n xs ++ l) (take-append-le k ys rest b)

pub loop-n-preserved : goal.loop-n-preserved
loop-n-preserved g c =
    let l = c.loop-n in
    let read = c.in_ok-k.ensures in
    record {
      count = search rules;
      size = search rules;
      bytes = rw (take_more l.out c.read.new.buf l.n _ c.in_ok-k.k l.invariant.count read.bound.0)
          (then _ _ _ _ _ l.invariant.bytes read.bytes.0);
    }
