use Rattle.std.proofs.Common.{◌+◌, ◌-◌, slice_index, arith}
use Rattle.pin_plain.proofs.RunLaws.{cut_of, room_others, tallied_both}
use Rattle.pin_plain.proofs.tallies.+shares.Goals as goal

pub tally_shares-overflow_sub-cut-2 : goal.tally_shares-overflow_sub-cut-2
tally_shares-overflow_sub-cut-2 g t c =
    let nets = c.args.nets.now in
    let room = c.requires.room in
    let within = room.nets in
    let mid = c.args.from + c.args.share in
    let cut = cut_of nets.h.now nets.k c.args.from mid c.args.to c.args.place c.args.words.now (slice_index nets.starts.now mid) room (omega arith)
    (omega arith) (nets.placed.starts_at mid (omega arith)) in
    cut.1.0

pub tally_shares-split_at_mut-first-requires : goal.tally_shares-split_at_mut-first-requires
tally_shares-split_at_mut-first-requires g t c =
    let nets = c.args.nets.now in
    let room = c.requires.room in
    let within = room.nets in
    let mid = c.args.from + c.args.share in
    let cut = cut_of nets.h.now nets.k c.args.from mid c.args.to c.args.place c.args.words.now (slice_index nets.starts.now mid) room (omega arith)
    (omega arith) (nets.placed.starts_at mid (omega arith)) in
    cut.1.1

pub tally_shares-beside-requires-clause-others : goal.tally_shares-beside-requires-clause-others
tally_shares-beside-requires-clause-others g t c κs within =
    let nets = c.args.nets.now in
    let room = c.requires.room in
    let inside = room.nets in
    let mid = c.args.from + c.args.share in
    let cut = cut_of nets.h.now nets.k c.args.from mid c.args.to c.args.place c.args.words.now (slice_index nets.starts.now mid) room (omega arith)
    (omega arith) (nets.placed.starts_at mid (omega arith)) in
    let low = cut.1.0 in
    let parts = c.split_at_mut-first in
    let front = parts.ensures.front_len in
    room_others nets.h.now nets.k c.args.from mid c.args.to c.args.place (slice_index nets.starts.now mid - 1) parts.result.0.now parts.result.1.now
    c.args.words.now parts.ensures.value (omega arith) cut.0 (omega arith) room

pub tally_shares-returns : goal.tally_shares-returns
tally_shares-returns g t c =
    let nets = c.args.nets.now in
    let room = c.requires.room in
    let inside = room.nets in
    let mid = c.args.from + c.args.share in
    let cut = cut_of nets.h.now nets.k c.args.from mid c.args.to c.args.place c.args.words.now (slice_index nets.starts.now mid) room (omega arith)
    (omega arith) (nets.placed.starts_at mid (omega arith)) in
    let low = cut.1.0 in
    let parts = c.split_at_mut-first in
    let front = parts.ensures.front_len in
    let same = c.beside.auto.first in
    tallied_both nets.h.now nets.k nets.blocks.now c.args.from mid c.args.to c.args.place (slice_index nets.starts.now mid - 1) c.beside.new.first
    c.beside.new.others (omega arith) cut.0 c.beside.ensures.first c.beside.ensures.others
