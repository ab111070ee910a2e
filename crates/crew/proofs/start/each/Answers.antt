use Rattle.std.proofs.Common.{refl}
use Rattle.crew.proofs.ChunkLaws.{item_changed}
use Rattle.crew.proofs.start.each.Goals as goal

pub returns : goal.returns
returns g c =
    record {
      changes = λ i d l.
          let place = (c.each_chunk.ensures.by_index i d l).1 in (
            refl,
            item_changed g.F.Fn c.args.job.now place.start place.offset i c.args.items.now c.each_chunk.new.items place.argument.now
                place.after_call.now d place.start_plus_offset place.offset_in_chunk place.argument_is.at_most_size place.old_element place.new_element
                (place.call d),
          );
    }
