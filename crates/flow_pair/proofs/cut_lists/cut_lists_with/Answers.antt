use Rattle.std.proofs.Common.{◌≡◌, ◌≢◌, ◌*◌, ◌/◌, ◌+◌, ◌<◌, ◌∙◌, ℕ, List, IfOk, length, length-set, vec_len, get_or-set_other, sym, subst, arith}
use Rattle.std.proofs.Math.Nat.{mul-div_cancel}
use Rattle.hg_defs.specs.Hypergraph.{net_count}
use Rattle.flow_pair.specs.CutNets.{AreCutListsIn, AreCutListsOfRun, AreJoined}
use Rattle.flow_pair.proofs.CutNetLaws.{lists_joined}
use Rattle.flow_pair.proofs.cut_lists.cut_lists_with.Goals as goal

pub loop-i-preserved : goal.loop-i-preserved
loop-i-preserved g c =
    let h = c.args.h.now in
    let p = c.args.p.now in
    let runs = c.in_ok-runs.runs.items in
    let n = vec_len c.in_ok-runs.runs in
    let long : length runs ≡ n = omega arith in
    let i = c.loop-i.i in
    let was : List (List ℕ) = c.loop-i.lists.items in
    let run : List (List ℕ) = c.in-Ok.run'.items in
    let now : List (List ℕ) = c.append_all.new.lists.items in
    let same = length-set runs 0 c.replace.new.dest ∙ long in
    let later : i ≢ 0 = (let a = c.loop-i.auto in omega arith) in
    let low : i < n = (let t = c.loop-i-test.true in omega arith) in
    let cut : AreCutListsOfRun h p.k p.blocks n i run =
    subst (λ lists. IfOk lists (λ lists. AreCutListsOfRun h p.k p.blocks n i lists.items))
    (sym (get_or-set_other runs 0 i c.replace.new.dest c.index.result.now later) ∙ sym c.index.ensures ∙ c.in-Ok.is)
    (c.in_ok-runs.ensures.cut i c.index.result.now low) in
    subst (λ m. AreCutListsIn h p.k p.blocks 0 (net_count h * (i + 1) / m) now) (sym same)
    (lists_joined h p.k p.blocks 0 (net_count h * i / n) (net_count h * (i + 1) / n) was run now
    (subst (λ (lists : List (List ℕ)). AreJoined was lists now) c.as_slice.ensures.value c.in_ok-append_all.ensures)
    (subst (λ m. AreCutListsIn h p.k p.blocks 0 (net_count h * i / m) was) same c.loop-i.invariant) cut)

pub returns : goal.returns
returns g c =
    let h = c.args.h.now in
    let p = c.args.p.now in
    let runs = c.in_ok-runs.runs.items in
    let n = vec_len c.in_ok-runs.runs in
    let long : length runs ≡ n = omega arith in
    let same = length-set runs 0 c.replace.new.dest ∙ long in
    let end : c.loop-i.i ≡ n = (let a = c.loop-i.auto in let t = c.loop-i-test.false in let s = c.in_ok-runs.ensures.some in omega arith) in
    subst (λ m. AreCutListsIn h p.k p.blocks 0 m c.loop-i.lists.items) (mul-div_cancel (net_count h) c.in_ok-runs.ensures.some)
    (subst (λ i. AreCutListsIn h p.k p.blocks 0 (net_count h * i / n) c.loop-i.lists.items) end
    (subst (λ m. AreCutListsIn h p.k p.blocks 0 (net_count h * c.loop-i.i / m) c.loop-i.lists.items) same c.loop-i.invariant))
