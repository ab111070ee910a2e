-- One image more.
use Rattle.std.proofs.Common.{ℕ, ◌+◌, ◌*◌, List, ◌++◌, [], ◌∷◌, length, map, slice_index, nat_cmp, sym, subst, ap, ap₂, ◌∙◌, refl, arith}
use Rattle.std.proofs.lemmas.List.{length-append}
use Rattle.hg_defs.specs.Sorting.{set_of}
use Rattle.hg_defs.proofs.SumLaws.{total-take-le}
use Rattle.contract_nets.specs.Keys.{Key, keys_of_net}
use Rattle.contract_nets.specs.Images.{over}
use Rattle.contract_nets.proofs.KeyLaws.{keys_from_more}
use Rattle.contract_nets.proofs.ImageLaws.{AreLists, AreLists-more, few_more, pins_over}
use Rattle.contract_nets.proofs.images.map_part.Goals as goal

pub overflow_cast-len : goal.overflow_cast-len
overflow_cast-len c =
    let h = c.args.h.now in
    let cs = c.args.clusters.now in
    let i = c.loop-i.i in
    let from = c.args.j * c.args.size in
    let more = c.as_slice.result.now in
    let pins = c.loop-i.part-inside.pins.items in
    let is = c.as_slice.ensures.value ∙ c.in_ok-map_pins.ensures ∙ ap (λ (ps : List ℕ). set_of nat_cmp (map (slice_index cs) ps)) c.pins.ensures.value in
    let f = few_more h cs from i c.loop-i.part-inside.starts.items pins more (length pins + length more) c.loop-i.invariant.0 (omega arith) is refl in
    let t = total-take-le (λ e. length e.pins) h.nets (from + (i + 1)) in
    let b = c.nets-nets.ensures.bounds.pins in
    let s = length-append pins more in
    let l = c.in_ok-extend_from_slice.ensures.len in
    let m = c.len.ensures in
    omega arith

pub loop-i-preserved : goal.loop-i-preserved
loop-i-preserved c =
    let h = c.args.h.now in
    let cs = c.args.clusters.now in
    let i = c.loop-i.i in
    let from = c.args.j * c.args.size in
    let more = c.as_slice.result.now in
    let starts = c.loop-i.part-inside.starts.items in
    let pins = c.loop-i.part-inside.pins.items in
    let is = c.as_slice.ensures.value ∙ c.in_ok-map_pins.ensures ∙ ap (λ (ps : List ℕ). set_of nat_cmp (map (slice_index cs) ps)) c.pins.ensures.value in
    let over_is = pins_over h cs (from + i) (omega arith) in (
      subst (λ (xs : List ℕ). AreLists h cs from (i + 1) xs c.extend_from_slice.new.self.items) (sym c.in_ok-push-2.ensures.items)
          (subst (λ (xs : List ℕ). AreLists h cs from (i + 1) (starts ++ c.len.result ∷ []) xs) (sym c.in_ok-extend_from_slice.ensures.items)
          (AreLists-more h cs from i starts pins more c.len.result c.loop-i.invariant.0 (omega arith) is
          (let l = c.in_ok-extend_from_slice.ensures.len in let m = c.len.ensures in omega arith))),
      c.in_ok-push_key.ensures
          ∙ ap₂ (λ (ks : List Key) (ps : List ℕ). ks ++ keys_of_net (from + i) ps) c.loop-i.invariant.1
          (c.as_slice-in-loop-i.ensures.value ∙ sym c.as_slice.ensures.value ∙ is ∙ sym over_is)
          ∙ sym (keys_from_more (over h cs) from i),
    )
