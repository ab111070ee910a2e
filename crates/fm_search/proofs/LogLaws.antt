-- What a round of searches logs.
use Rattle.std.proofs.Common.{◌≡◌, ◌≢◌, ℕ, true, false, List, [], ◌∷◌, ◌++◌, length, get_or}
use Rattle.std.proofs.Common.{◌==◌, true≢false, ℤ, inl, inr, sym, ap, subst, ◌∙◌, arith}
use Rattle.std.proofs.lemmas.Bool.{eqb-true}
use Rattle.std.proofs.lemmas.List.{length-append}
use Rattle.std.proofs.Math.Seq.{get_or-append_seam}
use Rattle.hg_defs.specs.declared.moves.Move.{Move}
use Rattle.hg_defs.specs.Hypergraph.{Hyper}
use Rattle.hg_defs.specs.Cost.{cost}
use Rattle.hg_defs.specs.Partition.{Fits}
use Rattle.hg_defs.specs.Replay.{replay}
use Rattle.hg_base.proofs.CountLaws.{cost-lt}
use Rattle.pin_plain.specs.Parted.{Parted, IsParted}
use Rattle.move_table.specs.Closing.{RacedEnd}
use Rattle.round_log.specs.declared.record.Kind.TheVariants.{Search}
use Rattle.round_log.specs.declared.record.LoggedRound.{LoggedRound}
use Rattle.round_log.specs.Rounds.{after_round, IsRaced}
use Rattle.round_log.specs.Passes.{IsSearchRound, HasPossible}
use Rattle.round_log.proofs.PassLaws.{raced_keeps}
use Rattle.refiner.specs.declared.pass.Task.{Task}
use Rattle.refiner.specs.Racing.{LogsRace}
use Rattle.fm_search.specs.Logging.{IsLoggedRound, LogsSearchRound, IsSingleRound, last_of}

module _ (h : Hyper) (task : Task) (p : Parted) (parted : IsParted h p.k p.blocks) (fits : Fits h p.k p.limit p.blocks) where
  raced_of : (r : LoggedRound) → IsSearchRound h p.k p.limit task.workers p.blocks r → IsRaced h p.k p.limit p.blocks r
  raced_of r (inl s) = s.0.raced
  raced_of r (inr s) = s.plain.raced

  logged : (q : Parted) (r : LoggedRound) → IsSearchRound h p.k p.limit task.workers p.blocks r → r.kind ≡ Search → r.level ≡ task.level
      → q ≡ record p { blocks = after_round p.blocks r } → IsLoggedRound h task p q r
  logged q r legal kind level leads =
      let keep = raced_keeps h p.k p.limit p.blocks r (raced_of r legal) in
      let less = keep.no_dearer fits in
      let before = keep.before in
      let after = keep.after in
      record {
        legal = legal;
        kind = kind;
        level = level;
        leads = leads;
        fits = subst (λ (x : Parted). Fits h x.k x.limit x.blocks) (sym leads) (keep.within parted.partition fits);
        after = after ∙ sym (ap (λ (x : Parted). cost h x.blocks) leads);
        lower = omega arith;
        small = let c = cost-lt h p.blocks parted.bounds in omega arith;
      }

  pub raced_logged : (e : RacedEnd) → e.opening ≡ p.blocks → e.part ≡ record p { blocks = replay e.opening e.moves } → length e.gains ≡ task.workers
      → e.moves ≢ [] → (q : Parted) (old new : List LoggedRound) → LogsRace Search task.level h e old new q → LogsSearchRound h task p q old new
  raced_logged e opening part gains some q old new s = record {
    round = s.round;
    log = s.log;
    logged = logged q s.round (inl (
      record {
        raced = raced;
        gains = ap (λ (xs : List ℤ). length xs) s.recorded.same_gains ∙ gains;
      },
      s.recorded.tabled,
      (λ none. some (sym s.recorded.same_moves ∙ none)),
    )) s.recorded.same_kind s.recorded.same_level
        (s.leads
        ∙ ap (λ (x : Parted). record x { blocks = after_round e.opening s.round }) part
        ∙ ap (λ (x : List ℕ). record p { blocks = after_round x s.round }) opening);
  }
    where
      raced : IsRaced h p.k p.limit p.blocks s.round
      raced =
          subst (λ (x : List ℕ). IsRaced h p.k p.limit x s.round) opening
          (subst (λ l. IsRaced h p.k l e.opening s.round) (ap (λ (x : Parted). x.limit) part)
          (subst (λ k. IsRaced h k e.part.limit e.opening s.round) (ap (λ (x : Parted). x.k) part) s.recorded.raced))

  -- where the race moved nothing, the partition is as it was
  pub unmoved : (e : RacedEnd) → e.opening ≡ p.blocks → e.part ≡ record p { blocks = replay e.opening e.moves } → e.moves ≡ [] → e.part ≡ p
  unmoved e opening part none =
      part
      ∙ ap (λ (moves : List Move). record p { blocks = replay e.opening moves }) none
      ∙ ap (λ (x : List ℕ). record p { blocks = x }) opening

  pub single_logged : (o q : Parted) → o ≡ p → (r : LoggedRound) → IsSingleRound h task.level o r → q ≡ record o { blocks = after_round o.blocks r }
      → (old new : List LoggedRound) → new ≡ old ++ r ∷ [] → LogsSearchRound h task p q old new
  single_logged o q same r single leads old new log =
      let s = subst (λ (x : Parted). IsSingleRound h task.level x r) same single in
      record {
        round = r;
        log = log;
        logged = logged q r (inr s.single) s.kind s.level (subst (λ (x : Parted). q ≡ record x { blocks = after_round x.blocks r }) same leads);
      }

-- where a move is possible in a partition, one is in an equal one
pub possible_at : (h : Hyper) (p o : Parted) → o ≡ p → HasPossible h p.k p.limit p.blocks → HasPossible h o.k o.limit o.blocks
possible_at h p o same f = subst (λ (x : Parted). HasPossible h x.k x.limit x.blocks) (sym same) f

-- the last round of a log that gained it
pub last_is : (old new : List LoggedRound) (r : LoggedRound) → new ≡ old ++ r ∷ [] → (d : LoggedRound) → last_of new d ≡ r
last_is old new r log d =
    ap (λ (xs : List LoggedRound). last_of xs d) log
    ∙ ap (λ n. get_or (old ++ r ∷ []) n d) (omega (arith, length-append old (r ∷ [])))
    ∙ get_or-append_seam old r [] d

-- ---- whether a list is empty

pub some_moves : (xs ys : List Move) → xs ≡ ys → (length xs == 0) ≡ false → ys ≢ []
some_moves xs ys same some e = true≢false (sym (ap (λ (zs : List Move). length zs == 0) (same ∙ e)) ∙ some)

pub no_moves : (xs ys : List Move) → xs ≡ ys → (length xs == 0) ≡ true → ys ≡ []
no_moves [] ys same none = sym same
no_moves (x ∷ xs) ys same none = absurd (let n = eqb-true (length (x ∷ xs)) 0 none in omega arith)
