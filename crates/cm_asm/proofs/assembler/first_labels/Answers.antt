use Rattle.std.proofs.Common.{arith, slice_get, Some, ◌≡◌, refl}
use Rattle.std.proofs.lemmas.Option.{slice_get_read}
use Rattle.cm_asm.specs.declared.assembler.Spot.{Spot}
use Rattle.cm_asm.specs.Label.{spot_of}
use Rattle.cm_asm.proofs.AssemblyLaw.{labels-more, address-more, size-small}
use Rattle.cm_asm.proofs.assembler.first_labels.Goals as goal

pub loop-at-preserved : goal.loop-at-preserved
loop-at-preserved c =
    let items = c.args.items.now in
    let l = c.loop-at in
    let item = c.index-items-at.result in
    let found : slice_get items l.at ≡ Some item = slice_get_read items _ l.at item refl c.loop-at-test.true c.index-items-at.is in
    let spot : Spot = record { at = l.at; address = l.address } in
    let same : spot ≡ spot_of items l.at = cc in
    let small = size-small item in
    record {
      labels = labels-more items l.labels c.note_label.new.labels l.at item spot found l.invariant.labels same c.in_ok-note_label.ensures;
      address = let more = address-more items l.at item found in cc;
      low = omega arith;
    }
