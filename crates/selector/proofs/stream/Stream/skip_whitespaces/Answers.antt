-- `selector::stream::Stream::skip_whitespaces` meets its contract: the spaces end no further than the selector.
use Rattle.std.proofs.Common.{rules}
use Rattle.rules.specs.Bytes.{is}
use Rattle.rules.proofs.Runs.{skip_le}
use Rattle.selector.proofs.stream.Stream.skip_whitespaces.Goals as goal

pub invariant_of-self-clause-place : goal.invariant_of-self-clause-place
invariant_of-self-clause-place c =
    rw (c.skip_while-self.ensures (is 32) (λ b l r p. search rules)) (skip_le (is 32) c.args.self.now.«data».now c.args.self.now.idx c.args.self.now.place)
