-- Laws of descents over the levels of a stack.
use Rattle.std.proofs.Common.{◌≡◌, ℕ, ◌+◌, ◌-◌, ◌<◌, List, [], ◌∷◌, ◌++◌, length, take, get_or, refl, sym, ap, subst, ◌∙◌, arith}
use Rattle.std.proofs.lemmas.List.{get_or-take, length-take, length-append, length_push, get_or_push, get_or_append_left}
use Rattle.hg_defs.specs.Hypergraph.{Hyper}
use Rattle.hg_defs.specs.Contraction.{IsFull, IsApart}
use Rattle.hg_defs.specs.Clustering.{cluster_count}
use Rattle.hg_defs.specs.Levels.{level, map_of}
use Rattle.level_stack.specs.Stack.{Stack, IsStacked, first_of}
use Rattle.level_stack.specs.Down.{Down, IsDown}
use Rattle.level_stack.proofs.StackLaws.{first_pushed}

-- the levels of a stack
pub stacked_is_down : (s : Stack) (kept : List Hyper) → IsStacked s kept → IsDown s.base s.maps kept
stacked_is_down s kept o = record {
  within = let n = o.levels in omega arith;
  at = o.at;
  full = λ i l. (o.leads i l).full;
  apart = λ i l. (o.leads i l).apart;
}

-- the lowest of them
IsDown-take : (base : Hyper) (maps : List (List ℕ)) (kept : List Hyper) (n : ℕ) → IsDown base maps kept → IsDown base maps (take n kept)
IsDown-take base maps kept n d = record {
  within = let short = length-take n kept in let o = d.within in omega arith;
  at = λ i h l. let short = length-take n kept in get_or-take n kept i h (omega arith) ∙ d.at i h (omega arith);
  full = d.full;
  apart = d.apart;
}

-- all but the last ones
IsDown-front : (base : Hyper) (maps : List (List ℕ)) (kept more : List Hyper) → IsDown base maps (kept ++ more) → IsDown base maps kept
IsDown-front base maps kept more d = record {
  within = let sum = length-append kept more in let o = d.within in omega arith;
  at = λ i h l. let sum = length-append kept more in sym (get_or_append_left kept more h i l) ∙ d.at i h (omega arith);
  full = d.full;
  apart = d.apart;
}

-- the last of the levels that are kept
pub last_level : (maps : List (List ℕ)) (below : List Hyper) (last : Hyper) → IsDown (first_of below last) maps (below ++ last ∷ [])
    → last ≡ level (first_of below last) maps (length below)
last_level maps below last down =
    let sum = length_push below last in
    sym (get_or_push below last last (length below) refl) ∙ down.at (length below) last (omega arith)

module _ (maps : List (List ℕ)) (below : List Hyper) (last : Hyper) (down : IsDown (first_of below last) maps (below ++ last ∷ [])) (rest : List Hyper)
    (on : Hyper) where
  -- the level below the last one is the last now
  pub is_down_left : below ≡ rest ++ on ∷ [] → IsDown (first_of rest on) maps (rest ++ on ∷ [])
  is_down_left cut =
      subst (λ h. IsDown h maps (rest ++ on ∷ [])) (ap (λ hs. get_or hs 0 last) cut ∙ first_pushed rest on last)
      (subst (IsDown (first_of below last) maps) cut (IsDown-front (first_of below last) maps below (last ∷ []) down))

  -- some level below the last one is the last now
  pub is_down_taken : (n : ℕ) → take (n + 1) below ≡ rest ++ on ∷ [] → IsDown (first_of rest on) maps (rest ++ on ∷ [])
  is_down_taken n cut =
      subst (λ h. IsDown h maps (rest ++ on ∷ []))
      (sym (get_or-take (n + 1) below 0 last (omega arith)) ∙ ap (λ hs. get_or hs 0 last) cut ∙ first_pushed rest on last)
      (subst (IsDown (first_of below last) maps) cut
      (IsDown-take (first_of below last) maps below (n + 1) (IsDown-front (first_of below last) maps below (last ∷ []) down)))

-- ---- a descent from the level of a number, one level after the other

module _ (base : Hyper) (maps : List (List ℕ)) where
  -- the level that it is on
  pub level_there : (d : Down) (n : ℕ) (g : Hyper) → d ≡ record { base = base; maps = maps; number = n } → g ≡ level d.base d.maps d.number
      → g ≡ level base maps n
  level_there d n g on same = same ∙ ap (λ (x : Down). level x.base x.maps x.number) on

  -- that level, and the clustering that leads up from it
  pub record StepsDown (i : ℕ) (g : Hyper) (clusters : List ℕ) : Type 0 where
    pub same : g ≡ level base maps i
    pub is_map : clusters ≡ map_of maps i
    pub full : IsFull (level base maps i) clusters (cluster_count clusters)
    pub apart : IsApart (level base maps i) clusters

  module _ (number above : ℕ) (old new : Down) (low : above < number) (on : old ≡ record { base = base; maps = maps; number = number - above })
      (went : new ≡ record old { number = old.number - 1 })
    where
      went_to : (n : ℕ) → number - above - 1 ≡ n → new ≡ record { base = base; maps = maps; number = n }
      went_to n same =
          went
          ∙ ap (λ (x : Down). let y : Down = record x { number = x.number - 1 } in y) on
          ∙ ap (λ (m : ℕ). let y : Down = record { base = base; maps = maps; number = m } in y) same

      -- it went a level down
      pub went_down : new ≡ record { base = base; maps = maps; number = number - (above + 1) }
      went_down = went_to (number - (above + 1)) (omega arith)

      pub steps_down : (g : Hyper) (clusters : List ℕ) → g ≡ level new.base new.maps new.number → clusters ≡ map_of new.maps new.number
          → IsFull (level new.base new.maps new.number) clusters (cluster_count clusters) → IsApart (level new.base new.maps new.number) clusters
          → StepsDown (number - 1 - above) g clusters
      steps_down g clusters same is_map full apart = record {
        same = level_there new (number - 1 - above) g there same;
        is_map = is_map ∙ ap (λ (x : Down). map_of x.maps x.number) there;
        full = subst (λ (x : Down). IsFull (level x.base x.maps x.number) clusters (cluster_count clusters)) there full;
        apart = subst (λ (x : Down). IsApart (level x.base x.maps x.number) clusters) there apart;
      }
        where
          there : new ≡ record { base = base; maps = maps; number = number - 1 - above }
          there = went_to (number - 1 - above) (omega arith)
