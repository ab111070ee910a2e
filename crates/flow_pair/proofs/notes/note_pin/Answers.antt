use Rattle.std.proofs.Common.{nat_eq, refl}
use Rattle.std.specs.Set.{is_member}
use Rattle.hg_defs.specs.Partition.{block_of}
use Rattle.flow_pair.proofs.ShortArcLaws.{kept_pin, noted_then, noted_else, pin_inside, pin_outside}
use Rattle.flow_pair.proofs.notes.note_pin.Goals as goal
use Rattle.flow_pair.proofs.notes.note_pin.Goals.{then-outside, else-outside}

pub returns-then-place-pair-clause-first : goal.returns-then-place-pair-clause-first
returns-then-place-pair-clause-first c =
    let s = c.args.pair in
    kept_pin c.args.outside.0 (nat_eq (block_of s.blocks.now c.args.v) s.first) (is_member nat_eq s.region.now c.args.v)
    (pin_inside s.region.now c.args.v c.place-place.result c.place-place.ensures c.if-place-pair.true)

pub returns-then-place-pair-clause-second : goal.returns-then-place-pair-clause-second
returns-then-place-pair-clause-second c =
    let s = c.args.pair in
    kept_pin c.args.outside.1 (nat_eq (block_of s.blocks.now c.args.v) s.second) (is_member nat_eq s.region.now c.args.v)
    (pin_inside s.region.now c.args.v c.place-place.result c.place-place.ensures c.if-place-pair.true)

pub returns-then-outside-2-clause-first : goal.returns-then-outside-2-clause-first
returns-then-outside-2-clause-first c =
    let s = c.args.pair in
    let test = nat_eq (block_of s.blocks.now c.args.v) s.first in
    let member = is_member nat_eq s.region.now c.args.v in
    let out = pin_outside s.region.now c.args.v c.place-place.result c.place-place.ensures c.if-place-pair.false in
    elim c.if-outside.branch [
      | then-outside w ↦ noted_then c.args.outside.0 test member c.if-outside.result w.if-outside.true w.result-is
      | else-outside w ↦ noted_else c.args.outside.0 test member c.if-outside.result out w.if-outside.false w.result-is
    ]

pub returns-else-outside-2-clause-first : goal.returns-else-outside-2-clause-first
returns-else-outside-2-clause-first c =
    let s = c.args.pair in
    let test = nat_eq (block_of s.blocks.now c.args.v) s.first in
    let member = is_member nat_eq s.region.now c.args.v in
    let out = pin_outside s.region.now c.args.v c.place-place.result c.place-place.ensures c.if-place-pair.false in
    elim c.if-outside.branch [
      | then-outside w ↦ noted_then c.args.outside.0 test member c.if-outside.result w.if-outside.true w.result-is
      | else-outside w ↦ noted_else c.args.outside.0 test member c.if-outside.result out w.if-outside.false w.result-is
    ]

pub returns-else-outside-2-clause-second : goal.returns-else-outside-2-clause-second
returns-else-outside-2-clause-second c =
    let s = c.args.pair in
    let test = nat_eq (block_of s.blocks.now c.args.v) s.second in
    noted_else c.args.outside.1 test (is_member nat_eq s.region.now c.args.v) test
    (pin_outside s.region.now c.args.v c.place-place.result c.place-place.ensures c.if-place-pair.false) c.if-outside-2.false refl
