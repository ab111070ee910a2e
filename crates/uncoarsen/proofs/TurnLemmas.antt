-- The refiners of a level, one after the other.
use Rattle.std.proofs.Common.{◌≡◌, ◌≢◌, ℕ, suc, ◌+◌, ◌<◌, ◌≤◌, true, List, [], ◌∷◌, ◌++◌, length, map, take, All, AllPairs, get_or, set}
use Rattle.std.proofs.Common.{refl, sym, ap, subst, ◌∙◌, arith}
use Rattle.std.proofs.Math.Seq.{take-suc, map-set_same}
use Rattle.std.proofs.lemmas.List.{append-nil, append_assoc, length-set, map-set, get_or-map, get_or-set_other, length-map, take_all}
use Rattle.std.proofs.lemmas.List.Elements.{All-nil, All-append, All-set}
use Rattle.hg_defs.specs.Hypergraph.{Hyper}
use Rattle.pin_plain.specs.Parted.{Parted}
use Rattle.round_log.specs.declared.record.Kind.{Kind}
use Rattle.round_log.specs.declared.record.LoggedRound.{LoggedRound}
use Rattle.round_log.specs.Rounds.{after_rounds}
use Rattle.round_log.specs.Passes.{IsPass}
use Rattle.round_log.specs.TraceLaws.{IsSound}
use Rattle.round_log.proofs.PassLaws.{pass-partition, pass-obeys, pass-fits, pass-kind}
use Rattle.refiner.specs.declared.pass.Task.{Task}
use Rattle.refiner.specs.declared.pass.Tally.{Tally}
use Rattle.refiner.specs.Logging.{LogsPass}
use Rattle.uncoarsen.specs.Refined.{ArePasses, tally_with, tallies_with}
use Rattle.uncoarsen.specs.Passing.{RefinesLevel}
use Rattle.uncoarsen.proofs.PassesLaws.{after-append}
use Rattle.uncoarsen.proofs.TallyLemmas.{tally_with-own, tallies_with-nil, tallies_with-append, tallies_with-one}

-- ---- passes

-- one pass more
pub passes_push : (kinds : List Kind) (kind : Kind) (h : Hyper) (k l workers : ℕ) (p : List ℕ) (rounds made : List LoggedRound)
    → ArePasses kinds h k l workers p rounds → IsPass kind h k l workers (after_rounds p rounds) made
    → ArePasses (kinds ++ kind ∷ []) h k l workers p (rounds ++ made)
passes_push [] kind h k l workers p rounds made none pass =
    subst (λ (rs : List LoggedRound). ArePasses (kind ∷ []) h k l workers p (rs ++ made)) (sym none) (
      made,
      [],
      sym (append-nil made),
      subst (λ (rs : List LoggedRound). IsPass kind h k l workers (after_rounds p rs) made) none pass,
      refl,
    )
passes_push (x ∷ kinds) kind h k l workers p rounds made s pass = (
  s.0,
  s.1 ++ made,
  ap (λ (rs : List LoggedRound). rs ++ made) s.2 ∙ append_assoc s.0 s.1 made,
  s.3,
  passes_push kinds kind h k l workers (after_rounds p s.0) s.1 made s.4
      (subst (λ (q : List ℕ). IsPass kind h k l workers q made) (ap (after_rounds p) s.2 ∙ after-append p s.0 s.1) pass),
)

-- a pass leads from a sound partition to a sound one
pub pass_sound : (kind : Kind) (h : Hyper) (k l workers : ℕ) (p : List ℕ) (rounds : List LoggedRound) → IsSound h k l p
    → IsPass kind h k l workers p rounds → IsSound h k l (after_rounds p rounds)
pass_sound kind h k l workers p rounds o pass = record {
  partition = pass-partition true kind h k l workers p rounds o.partition pass;
  obeys = pass-obeys true kind h k l workers p rounds o.obeys pass;
  fits = pass-fits true kind h k l workers p rounds o.partition o.fits pass;
}

-- ---- the refiners, of which a contract sees whether they may run, their kinds and their tallies

-- after the passes of so many of them
pub record Turns {B : Type 0} (run : B → Type 0) (kind : B → Kind) (tally : B → Tally) (h : Hyper) (task : Task) (p : Parted) (logged : List LoggedRound)
    (old : List B) (i : ℕ) (boxes : List B) (log : List LoggedRound) (part : Parted) : Type 0 where
  pub may_run : All run boxes
  pub kinds : map kind boxes ≡ map kind old
  pub long : length boxes ≡ length old
  pub untouched : (j : ℕ) (d : B) → i ≤ j → get_or boxes j d ≡ get_or old j d
  pub rounds : List LoggedRound
  pub log_is : log ≡ logged ++ rounds
  pub passes : ArePasses (take i (map kind old)) h p.k p.limit task.workers p.blocks rounds
  pub levels : All (λ (r : LoggedRound). r.level ≡ task.level) rounds
  pub leads : part ≡ record p { blocks = after_rounds p.blocks rounds }
  pub sound : IsSound h p.k p.limit part.blocks
  pub tallies : map tally boxes ≡ tallies_with rounds (map kind old) (map tally old)

module _ {B : Type 0} (run : B → Type 0) (kind : B → Kind) (tally : B → Tally) (h : Hyper) (task : Task) (p : Parted) (logged : List LoggedRound)
    (old : List B)
  where
    pub turns_begin : All run old → IsSound h p.k p.limit p.blocks → Turns run kind tally h task p logged old 0 old logged p
    turns_begin may_run sound = record {
      may_run = may_run;
      kinds = refl;
      long = refl;
      untouched = λ j d low. refl;
      rounds = [];
      log_is = sym (append-nil logged);
      passes = refl;
      levels = All-nil (λ (r : LoggedRound). r.level ≡ task.level);
      leads = refl;
      sound = sound;
      tallies = sym (tallies_with-nil (map kind old) (map tally old) (length-map old kind ∙ sym (length-map old tally)));
    }

    -- whatever a pass does to its refiner, but that it keeps its kind
    pub turns_kinds : (i : ℕ) (boxes : List B) (log : List LoggedRound) (part : Parted) → Turns run kind tally h task p logged old i boxes log part
        → (d new : B) → kind new ≡ kind (get_or boxes i d) → map kind (set boxes i new) ≡ map kind old
    turns_kinds i boxes log part s d new same = map-set_same kind boxes i new d same ∙ s.kinds

    module _ (i : ℕ) (boxes : List B) (log : List LoggedRound) (part : Parted) (s : Turns run kind tally h task p logged old i boxes log part)
        (differ : AllPairs (λ (a b : Kind). a ≢ b) (map kind old)) (within : i < length old) (default new : B) (may_run : run new)
        (same : kind new ≡ kind (get_or boxes i default)) (now : List LoggedRound) (q : Parted)
        (pass : LogsPass (kind (get_or boxes i default)) h task part (tally (get_or boxes i default)) (tally new) log now q)
      where
        abbrev box : B
        box = get_or boxes i default

        low : i < length boxes
        low = let long = s.long in omega arith

        abbrev made : List LoggedRound
        made = pass.logged.rounds

        own_kind : get_or (map kind old) i (kind box) ≡ kind box
        own_kind = ap (λ (ks : List Kind). get_or ks i (kind box)) (sym s.kinds) ∙ get_or-map kind boxes i default (kind box) low

        part_k : part.k ≡ p.k
        part_k = ap (λ (x : Parted). x.k) s.leads

        part_limit : part.limit ≡ p.limit
        part_limit = ap (λ (x : Parted). x.limit) s.leads

        part_blocks : part.blocks ≡ after_rounds p.blocks s.rounds
        part_blocks = ap (λ (x : Parted). x.blocks) s.leads

        is_pass : IsPass (kind box) h p.k p.limit task.workers part.blocks made
        is_pass =
            subst (λ (n : ℕ). IsPass (kind box) h n p.limit task.workers part.blocks made) part_k
            (subst (λ (n : ℕ). IsPass (kind box) h part.k n task.workers part.blocks made) part_limit pass.logged.pass)

        all_own : All (λ (r : LoggedRound). r.kind ≡ get_or (map kind old) i (kind box)) made
        all_own =
            subst (λ (x : Kind). All (λ (r : LoggedRound). r.kind ≡ x) made) (sym own_kind)
            (pass-kind true (kind box) h p.k p.limit task.workers part.blocks made is_pass)

        own_tally : get_or (map tally boxes) i (tally box) ≡ tally box
        own_tally = get_or-map tally boxes i default (tally box) low

        new_tally : tally new ≡ tally_with made (get_or (map kind old) i (kind box)) (get_or (map tally boxes) i (tally box))
        new_tally =
            tally_with-own (get_or (map kind old) i (kind box)) made (tally box) (tally new) all_own pass.logged.count pass.logged.gain
            ∙ ap (tally_with made (get_or (map kind old) i (kind box))) (sym own_tally)

        blocks_now : q.blocks ≡ after_rounds p.blocks (s.rounds ++ made)
        blocks_now =
            ap (λ (x : Parted). x.blocks) pass.leads ∙ ap (λ (bs : List ℕ). after_rounds bs made) part_blocks
            ∙ sym (after-append p.blocks s.rounds made)

        long_kinds : i < length (map kind old)
        long_kinds = let e = length-map old kind in omega arith

        pub turns_more : Turns run kind tally h task p logged old (i + 1) (set boxes i new) now q
        turns_more = record {
          may_run = All-set run boxes i new may_run s.may_run;
          kinds = turns_kinds i boxes log part s default new same;
          long = length-set boxes i new ∙ s.long;
          untouched = λ j d high. get_or-set_other boxes i j new d (λ e. omega arith) ∙ s.untouched j d (omega arith);
          rounds = s.rounds ++ made;
          log_is = pass.logged.log ∙ ap (λ (rs : List LoggedRound). rs ++ made) s.log_is ∙ append_assoc logged s.rounds made;
          passes =
              let next : i + 1 ≡ suc i = omega arith in
              subst (λ (ks : List Kind). ArePasses ks h p.k p.limit task.workers p.blocks (s.rounds ++ made))
              (sym (ap (λ (n : ℕ). take n (map kind old)) next ∙ take-suc (map kind old) i (kind box) long_kinds
              ∙ ap (λ (x : Kind). take i (map kind old) ++ x ∷ []) own_kind))
              (passes_push (take i (map kind old)) (kind box) h p.k p.limit task.workers p.blocks s.rounds made s.passes
              (subst (λ (bs : List ℕ). IsPass (kind box) h p.k p.limit task.workers bs made) part_blocks is_pass));
          levels = All-append (λ (r : LoggedRound). r.level ≡ task.level) s.rounds made s.levels pass.logged.level;
          leads =
              pass.leads
              ∙ ap (λ (x : Parted). let r : Parted = record x { blocks = after_rounds part.blocks made } in r) s.leads
              ∙ ap (λ (bs : List ℕ). let r : Parted = record p { blocks = bs } in r) (sym (ap (λ (x : Parted). x.blocks) pass.leads) ∙ blocks_now);
          sound =
              subst (IsSound h p.k p.limit) (sym (ap (λ (x : Parted). x.blocks) pass.leads))
              (pass_sound (kind box) h p.k p.limit task.workers part.blocks made s.sound is_pass);
          tallies =
              map-set tally boxes i new
              ∙ tallies_with-one (map kind old) (map tally boxes) i (kind box) (tally box) made (tally new)
              (length-map old kind ∙ sym s.long ∙ sym (length-map boxes tally)) long_kinds differ all_own new_tally
              ∙ ap (tallies_with made (map kind old)) s.tallies
              ∙ sym (tallies_with-append s.rounds made (map kind old) (map tally old));
        }

    pub turns_end : (boxes : List B) (log : List LoggedRound) (part : Parted) → Turns run kind tally h task p logged old (length old) boxes log part
        → RefinesLevel (map kind old) h task p (map tally old) (map tally boxes) logged log part
    turns_end boxes log part s = record {
      rounds = s.rounds;
      log = s.log_is;
      refined = record {
        bear_level = s.levels;
        passes =
            subst (λ (ks : List Kind). ArePasses ks h p.k p.limit task.workers p.blocks s.rounds)
            (take_all (length old) (map kind old) (let e = length-map old kind in omega arith)) s.passes;
        result = ap (λ (x : Parted). x.blocks) s.leads;
      };
      leads = s.leads ∙ ap (λ (bs : List ℕ). let r : Parted = record p { blocks = bs } in r) (sym (ap (λ (x : Parted). x.blocks) s.leads));
      tallies = s.tallies;
    }
