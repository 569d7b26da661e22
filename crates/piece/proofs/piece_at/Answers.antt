-- `piece::piece_at` meets its contract: the part that is read is the piece's six words.
use Rattle.std.proofs.Common.{◌≡◌, ◌+◌, ◌-◌, ◌*◌, ℕ, arith, ap, take, drop}
use Rattle.piece.specs.Words.{piece_words, piece_of, piece_at}
use Rattle.piece.proofs.piece_at.Goals as goal

pub returns : goal.returns
unfolding piece_at
returns c = let a : ℕ = piece_words * c.args.i in
    let six : a + 6 - a ≡ 6 = omega arith in
    rw (c.simple_from.ensures, c.joiner_from.ensures) (ap (λ (k : ℕ). piece_of (take k (drop a c.args.words.now))) six)
