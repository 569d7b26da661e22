-- `batch::held::put_attributes` meets its contract: what is left to be written, from `at` on, is what the handles that are left hold.
use Rattle.std.proofs.Common.{drop}
use Rattle.rules.specs.Lists.{each}
use Rattle.rules.proofs.Buffers.{Left}
use Rattle.batch.proofs.Three.{three}
use Rattle.batch.proofs.held.put_attributes.Given as goal

abbrev pub invariant-loop-h : goal.invariant-loop-h
invariant-loop-h l =
    let held = three l.tags.profile.bytes.now l.d.page.now l.d.table.now l.name in
    Left l.initial.out 0 (each held l.tags.handles.now) l.out l.at (each held (drop l.h-index l.tags.handles.now))
