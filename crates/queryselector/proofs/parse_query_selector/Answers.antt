-- `queryselector::parse_query_selector` meets its contract: by what was read, and how many words were lent.
use mathlib.Core.Path.{refl, sym, ◌∙◌}
use Prim.Native.Nat.{◌*◌, ◌≤◌}
use native.Mathlib.Omega.{arith}
use lib.ListN.{length}
use Rattle.std.proofs.lemmas.List.{length-take-le}
use Rattle.piece.specs.Words.{piece_words}
use Rattle.queryselector.proofs.Written.{Parsed, parsed}
use Rattle.queryselector.proofs.Public.{answer_first, answer_short, answer_count}
use Rattle.queryselector.proofs.parse_query_selector.Goals as goal
use Rattle.queryselector.proofs.parse_query_selector.Goals.{In-Ok}

pub returns-in-Err : goal.returns-in-Err
returns-in-Err c = answer_first _ _ _ _ _ c.in-Err.ensures.answer c.refuse.ensures.is c.refuse.ensures.left

chain : (c : In-Ok) → Parsed c.args.s.now c.read.new.words c.in-Ok.n
chain c = parsed _ _ _ _ c.in-Ok.ensures.answer c.in-Ok.ensures.chain

-- the words of the pieces are among those that the selector's limit gives room for
few : (c : In-Ok) → piece_words * c.in-Ok.n ≤ length c.read.new.words
few c = omega (arith, (chain c).few, c.read.array_long)

pub overflow_mul-n : goal.overflow_mul-n
overflow_mul-n c = omega (arith, (chain (goal.at.overflow_mul-n c).In-Ok).few)

pub returns-then-out-n : goal.returns-then-out-n
returns-then-out-n c =
    answer_short _ _ _ _ _ (chain (goal.at.returns-then-out-n c).In-Ok) _ c.if-out-n.true c.refuse-then-out-n.ensures.is c.refuse-then-out-n.ensures.left

pub slice_bounds-words-end : goal.slice_bounds-words-end
slice_bounds-words-end c = few (goal.at.slice_bounds-words-end c).In-Ok

pub slice_bounds-copy_from_slice-end-3 : goal.slice_bounds-copy_from_slice-end-3
slice_bounds-copy_from_slice-end-3 c = sym (length-take-le _ _ (few (goal.at.slice_bounds-copy_from_slice-end-3 c).In-Ok))

pub copy_from_slice-requires : goal.copy_from_slice-requires
copy_from_slice-requires c = length-take-le _ _ c.if-out-n.false ∙ sym (length-take-le _ _ (few (goal.at.copy_from_slice-requires c).In-Ok))

pub returns : goal.returns
returns c = rw c.copy_from_slice.ensures.after (answer_count _ _ _ _ _ (chain (goal.at.returns c).In-Ok) c.if-out-n.false refl)
