-- What the source reaches in the residual network: the levels of a search from it in the network turned round.
use Rattle.std.proofs.Common.{◌≡◌, ◌≢◌, ℕ, zero, suc, ◌<◌, ◌≤◌, List, length, slice_index, nat_lt, refl, sym, ap, ◌∙◌, subst, arith}
use Rattle.std.proofs.Common.{◌⊎◌, inl, inr, Bool, true, false, IsTrue}
use Rattle.std.proofs.lemmas.Bool.{cases_eq, ltb-true, ltb-false}
use Rattle.flow_net.specs.Flow.{is_in}
use Rattle.flow_net.specs.Residual.{mate, head, tail, IsLinked, IsTree, IsOpen, IsClosed, IsShut}
use Rattle.flow_net.proofs.LevelLaws.{mate-mate, mate-within, tail-mate}

module _ (heads nexts firsts rests turned : List ℕ) (linked : IsLinked heads nexts firsts)
    (turns : (h : ℕ) → h < length heads → slice_index turned h ≡ slice_index rests (mate h)) where
  -- a closed search from the sink gives no level to a node that a half with a rest joins to one without a level
  joined_apart : (before : List ℕ) (v h : ℕ) → IsClosed heads rests before → h < length heads → tail heads h ≡ v → slice_index before (head heads h) ≡ 0
      → 0 < slice_index turned h → slice_index before v ≡ 0
  joined_apart before v h closed half leaves next rest = by (cases_eq (slice_index before v) 0)
    where
      by : (slice_index before v ≡ 0) ⊎ (slice_index before v ≢ 0) → slice_index before v ≡ 0
      by (inl e) = e
      by (inr ne) =
          let none = closed (mate h) (mate-within (length heads) h linked.pairs half) (subst (λ u. 0 < slice_index before u) (sym leaves) (omega arith))
          (ap (slice_index before) (tail-mate heads h) ∙ next) in
          let same = turns h half in
          absurd (omega arith)

  -- nor to one that a search from the source in the turned network reached
  reached_apart : (before after ways : List ℕ) (source : ℕ) → length after ≡ length firsts → slice_index before source ≡ 0
      → IsClosed heads rests before → IsTree heads after ways source → IsOpen turned after ways source
      → (d v : ℕ) → slice_index after v ≤ d → v < length after → 0 < slice_index after v → slice_index before v ≡ 0
  reached_apart before after ways source long at_source closed tree opens zero v low l p = absurd (omega arith)
  reached_apart before after ways source long at_source closed tree opens (suc d) v low l p =
      by (cases_eq v source) (reached_apart before after ways source long at_source closed tree opens d)
    where
      by : (v ≡ source) ⊎ (v ≢ source)
          → ((u : ℕ) → slice_index after u ≤ d → u < length after → 0 < slice_index after u → slice_index before u ≡ 0) → slice_index before v ≡ 0
      by (inl e) lower = ap (slice_index before) e ∙ at_source
      by (inr ne) lower =
          let step = tree.steps v l ne p in
          let less = step.lower in
          let next_in = linked.nodes (slice_index ways v) step.half in
          joined_apart before v (slice_index ways v) closed step.half step.leaves
          (lower (head heads (slice_index ways v)) (omega arith) (omega arith) step.reached) (opens v l ne p)

  -- so that search doesn't reach the sink
  pub sink_missed : (before after ways : List ℕ) (source sink : ℕ) (found : Bool) → length after ≡ length firsts → sink < length after
      → slice_index before source ≡ 0 → 0 < slice_index before sink → IsClosed heads rests before → IsTree heads after ways source
      → IsOpen turned after ways source → (IsTrue found → 0 < slice_index after sink) → found ≡ false
  sink_missed before after ways source sink false long l at_source at_sink closed tree opens some = refl
  sink_missed before after ways source sink true long l at_source at_sink closed tree opens some =
      let none = reached_apart before after ways source long at_source closed tree opens (slice_index after sink) sink (omega arith) l (some refl) in
      absurd (omega arith)

  -- no half with a rest leaves what it reaches
  pub reached_shut : (after : List ℕ) (near : List Bool) → length near ≡ length firsts → IsClosed heads turned after
      → ((v : ℕ) → v < length near → is_in near v ≡ nat_lt 0 (slice_index after v)) → IsShut heads rests near
  reached_shut after near long closed sides h l p q =
      let back_in = mate-within (length heads) h linked.pairs l in
      let tail_in = linked.nodes (mate h) back_in in
      let head_in = linked.nodes h l in
      let level = ltb-true 0 (slice_index after (tail heads h)) (sym (sides (tail heads h) (omega arith)) ∙ p) in
      let no_level = ltb-false 0 (slice_index after (head heads h)) (sym (sides (head heads h) (omega arith)) ∙ q) in
      let none : slice_index turned (mate h) ≡ 0 = closed (mate h) back_in level (ap (slice_index after) (tail-mate heads h) ∙ omega arith) in
      ap (slice_index rests) (sym (mate-mate h)) ∙ sym (turns (mate h) back_in) ∙ none
