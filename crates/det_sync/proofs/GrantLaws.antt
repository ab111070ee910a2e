-- Laws of wishes that are granted, one after the other.
use Rattle.std.proofs.Common.{◌≡◌, ◌≢◌, ℕ, zero, suc, ◌+◌, ◌<◌, ◌≤◌, Bool, true, false, if◌then◌else◌, nat_eq, nat_le}
use Rattle.std.proofs.Common.{List, [], ◌∷◌, ◌++◌, map, drop, length, get_or, All, AllPairs, Contains, Option, Some}
use Rattle.std.proofs.Common.{not, ◌&&◌, inl, inr, pos, ◌-◌, ◌^◌, set}
use Rattle.std.proofs.Common.{refl, sym, ap, subst, ◌∙◌, arith, get_or-set_other}
use Rattle.std.proofs.lemmas.List.{append_assoc, append-nil, drop_more, length-map, get_or-map, map-append}
use Rattle.std.proofs.lemmas.List.Elements.{All-head, All-tail}
use Rattle.std.proofs.lemmas.Bool.{leb-true}
use Rattle.hg_defs.specs.declared.moves.Move.{Move}
use Rattle.hg_defs.specs.Hypergraph.{Hyper, IsWithinLimits, vertex_count, weight_of, is_free}
use Rattle.hg_defs.specs.Partition.{IsPartition, block_of, load}
use Rattle.hg_defs.specs.Moves.{moved, is_allowed, move_of}
use Rattle.hg_defs.specs.MoveLaws.{IsBestBlock}
use Rattle.hg_defs.specs.Replay.{replay}
use Rattle.hg_defs.specs.Synchronous.{wish, saving, wishing, granted_move, granted, sync_moves}
use Rattle.hg_defs.specs.SynchronousLaws.{SavesFirst}
use Rattle.hg_defs.proofs.MoveLaws.{best_block_is, is_allowed_from}
use Rattle.hg_defs.proofs.ReplayLaws.{replay-append, length-replay}
use Rattle.hg_defs.proofs.SynchronousLaws.{wishes_are_best, wishes_by_saving}
use Rattle.pin_plain.specs.Parted.{IsLoaded, loads_after}
use Rattle.rollback_prefix.proofs.LoadLaws.{weight_held, loaded_moved, load_small, joined_small}
use Rattle.det_sync.specs.Wishes.{Wish, AreWishes}
use Rattle.det_sync.specs.Rounds.{unbooked}

abbrev pub vertices_of : List Wish → List ℕ
vertices_of ws = map (λ (w : Wish). w.1) ws

-- the wishes before place i were granted, where there was room: the moves so far lead to q, and with those of the other wishes they are all
pub record IsGranting (h : Hyper) (k l : ℕ) (p : List ℕ) (ws : List Wish) (i : ℕ) (made : List Move) (q : List ℕ) : Type 0 where
  pub rest : made ++ granted h k l p q (vertices_of (drop i ws)) ≡ sync_moves h k l p
  pub blocks : q ≡ replay p made
  pub apart : AllPairs (λ u v. u ≢ v) (vertices_of (drop i ws))
  pub still : All (λ v. block_of q v ≡ block_of p v) (vertices_of (drop i ws))

module _ (h : Hyper) (k l : ℕ) (p : List ℕ) where
  -- no two wishes are of one vertex
  wishing_apart : AllPairs (λ u v. u ≢ v) (wishing h k l p)
  wishing_apart i j d n m same = before (get_or (wishing h k l p) i d) (get_or (wishing h k l p) j d) same (wishes_by_saving h k l p i j d n m)
    where
      before : (u v : ℕ) → u ≡ v → SavesFirst h k l p u v → ⊥
      before u v e (inl more) = let f = ap (λ x. saving h p x (wish h k l p x)) e in omega arith
      before u v e (inr x) = let less = x.1 in omega arith

  -- a wish is one of a vertex
  pub wish_inside : (ws : List Wish) (i : ℕ) (w : Wish) → AreWishes h k l p ws → i < length ws → get_or ws i w ≡ w → w.1 < vertex_count h
  wish_inside ws i w are low here =
      ((wishes_are_best h k l p w.1).0 (subst (λ vs. Contains vs w.1) are.order
      (i, (let n = length-map ws (λ (x : Wish). x.1) in omega arith), get_or-map (λ (x : Wish). x.1) ws i w w.1 low ∙ ap (λ (x : Wish). x.1) here))).0

  pub granting_first : (ws : List Wish) → AreWishes h k l p ws → IsGranting h k l p ws 0 [] p
  granting_first ws w = record {
    rest = ap (granted h k l p p) w.order;
    blocks = refl;
    apart = subst (AllPairs (λ u v. u ≢ v)) (sym w.order) wishing_apart;
    still = λ i d m. refl;
  }

  -- a best block is free to be moved to where it has room, for a vertex that hasn't moved
  granted_best : (q : List ℕ) (v b : ℕ) → IsBestBlock h k l p v b → block_of q v ≡ block_of p v → load h q b + weight_of h v ≤ l →
      is_allowed h l q v b ≡ true
  granted_best q v b best same room = is_allowed_from h k l q v b (record {
    vertex = best.allowed.vertex;
    free = best.allowed.free;
    block = best.allowed.block;
    other = λ e. best.allowed.other (e ∙ same);
    room = room;
  })

  refused_full : (q : List ℕ) (v b : ℕ) → l < load h q b + weight_of h v → is_allowed h l q v b ≡ false
  refused_full q v b full = last (is_free h v) (not (nat_eq b (block_of q v))) (nat_le (load h q b + weight_of h v) l)
      (too_much (nat_le (load h q b + weight_of h v) l) refl)
    where
      too_much : (t : Bool) → nat_le (load h q b + weight_of h v) l ≡ t → t ≡ false
      too_much true e = absurd (let m = leb-true (load h q b + weight_of h v) l e in omega arith)
      too_much false e = refl

      last : (a b c : Bool) → c ≡ false → (a && b && c) ≡ false
      last true true c e = e
      last true false c e = refl
      last false b c e = refl

  module _ (ws : List Wish) (i : ℕ) (made : List Move) (q : List ℕ) (g : IsGranting h k l p ws i made q) (low : i < length ws) (w : Wish)
      (here : get_or ws i w ≡ w) (wished : wish h k l p w.1 ≡ Some w.2) (inside : w.1 < vertex_count h) where
    now_first : vertices_of (drop i ws) ≡ w.1 ∷ vertices_of (drop (i + 1) ws)
    now_first = ap vertices_of (drop_more ws i w low ∙ ap (λ (x : Wish). x ∷ drop (i + 1) ws) here)

    is_apart : AllPairs (λ u v. u ≢ v) (w.1 ∷ vertices_of (drop (i + 1) ws))
    is_apart = subst (AllPairs (λ u v. u ≢ v)) now_first g.apart

    is_still : All (λ v. block_of q v ≡ block_of p v) (w.1 ∷ vertices_of (drop (i + 1) ws))
    is_still = subst (All (λ v. block_of q v ≡ block_of p v)) now_first g.still

    pub still_here : block_of q w.1 ≡ block_of p w.1
    still_here = All-head (λ v. block_of q v ≡ block_of p v) w.1 (vertices_of (drop (i + 1) ws)) is_still

    rest_apart : AllPairs (λ u v. u ≢ v) (vertices_of (drop (i + 1) ws))
    rest_apart a b d n m = is_apart (suc a) (suc b) d (omega arith) (omega arith)

    rest_still : All (λ v. block_of q v ≡ block_of p v) (vertices_of (drop (i + 1) ws))
    rest_still = All-tail (λ v. block_of q v ≡ block_of p v) w.1 (vertices_of (drop (i + 1) ws)) is_still

    next : (t : Bool) → is_allowed h l q w.1 w.2 ≡ t
        → made ++ ((if t then move_of h q w.1 w.2 ∷ [] else []) ++ granted h k l p (replay q (if t then move_of h q w.1 w.2 ∷ [] else []))
        (vertices_of (drop (i + 1) ws))) ≡ sync_moves h k l p
    next t e =
        ap (λ (s : Bool). made ++ ((if s then move_of h q w.1 w.2 ∷ [] else []) ++ granted h k l p (replay q (if s then move_of h q w.1 w.2 ∷ [] else []))
        (vertices_of (drop (i + 1) ws)))) (sym e)
        ∙ ap (λ (o : Option ℕ). made ++ (granted_move h l q w.1 o ++ granted h k l p (replay q (granted_move h l q w.1 o)) (vertices_of (drop (i + 1) ws))))
        (sym wished)
        ∙ ap (λ vs. made ++ granted h k l p q vs) (sym now_first)
        ∙ g.rest

    pub granting_refused : l < load h q w.2 + weight_of h w.1 → IsGranting h k l p ws (i + 1) made q
    granting_refused full = record {
      rest = next false (refused_full q w.1 w.2 full);
      blocks = g.blocks;
      apart = rest_apart;
      still = rest_still;
    }

    module _ (room : load h q w.2 + weight_of h w.1 ≤ l) where
      best : IsBestBlock h k l p w.1 w.2
      best = best_block_is h k l p w.1 w.2 inside wished

      pub granting_made : IsGranting h k l p ws (i + 1) (made ++ move_of h q w.1 w.2 ∷ []) (moved q w.1 w.2)
      granting_made = record {
        rest =
            append_assoc made (move_of h q w.1 w.2 ∷ []) (granted h k l p (moved q w.1 w.2) (vertices_of (drop (i + 1) ws)))
            ∙ next true (granted_best q w.1 w.2 best still_here room);
        blocks = ap (λ r. moved r w.1 w.2) g.blocks ∙ sym (replay-append p made (move_of h q w.1 w.2 ∷ []));
        apart = rest_apart;
        still = λ a d m. get_or-set_other q w.1 (get_or (vertices_of (drop (i + 1) ws)) a d) w.2 0
            (λ e. is_apart 0 (suc a) d (omega arith) (omega arith) (sym e)) ∙ rest_still a d m;
      }

  -- all were granted, where there was room
  pub granting_all : (ws : List Wish) (i : ℕ) (made : List Move) (q : List ℕ) → length ws ≤ i → IsGranting h k l p ws i made q → made ≡ sync_moves h k l p
  granting_all ws i made q end g =
      sym (append-nil made) ∙ ap (λ (xs : List Wish). made ++ granted h k l p q (vertices_of xs)) (sym (none ws i end)) ∙ g.rest
    where
      none : (xs : List Wish) (j : ℕ) → length xs ≤ j → drop j xs ≡ []
      none [] zero m = refl
      none [] (suc j) m = refl
      none (x ∷ xs) zero m = absurd (omega arith)
      none (x ∷ xs) (suc j) m = none xs j (omega arith)

-- loads that are written, one after the other
pub loads_written : (loads : List ℕ) (from to a x b w : ℕ) → a ≡ get_or loads from 0 → x ≡ w → b ≡ get_or (set loads from (a - x)) to 0
    → set (set loads from (a - x)) to (b + x) ≡ loads_after loads from to w
loads_written loads from to a x b w e f there =
    ap (λ y. set (set loads from (a - x)) to (y + x)) there
    ∙ ap (λ y. set (set loads from (y - x)) to (get_or (set loads from (y - x)) to 0 + x)) e
    ∙ ap (loads_after loads from to) f

-- ---- by their loads, and before their gains are known

pub replay_unbooked : (p : List ℕ) (ms : List Move) → replay p (map unbooked ms) ≡ replay p ms
replay_unbooked p [] = refl
replay_unbooked p (m ∷ ms) = replay_unbooked (set p m.vertex m.to) ms

-- the wishes before place i were granted, where there was room, by these moves, after which the blocks have these loads
pub record IsGranted (h : Hyper) (k l : ℕ) (p : List ℕ) (ws : List Wish) (i : ℕ) (moves : List Move) (loads : List ℕ) : Type 0 where
  pub made : List Move
  pub same : moves ≡ map unbooked made
  pub granting : IsGranting h k l p ws i made (replay p made)
  pub loaded : IsLoaded h k (replay p made) loads

module _ (h : Hyper) (k l : ℕ) (p : List ℕ) (ws : List Wish) where
  pub granted_first : (moves : List Move) (loads : List ℕ) → AreWishes h k l p ws → moves ≡ [] → IsLoaded h k p loads → IsGranted h k l p ws 0 moves loads
  granted_first moves loads are none loaded = record {
    made = [];
    same = none;
    granting = granting_first h k l p ws are;
    loaded = loaded;
  }

  pub granted_whole : (i : ℕ) (moves : List Move) (loads : List ℕ) → length ws ≤ i → IsGranted h k l p ws i moves loads →
      moves ≡ map unbooked (sync_moves h k l p)
  granted_whole i moves loads end g = g.same ∙ ap (map unbooked) (granting_all h k l p ws i g.made (replay p g.made) end g.granting)

  module _ (i : ℕ) (moves : List Move) (loads : List ℕ) (g : IsGranted h k l p ws i moves loads) (low : i < length ws) (w : Wish)
      (here : get_or ws i w ≡ w) (wished : wish h k l p w.1 ≡ Some w.2) (inside : w.1 < vertex_count h) (whole : IsPartition h k p) where
    pub goes_below : w.2 < k
    goes_below = (best_block_is h k l p w.1 w.2 inside wished).allowed.block

    pub load_there : IsWithinLimits h → get_or loads w.2 0 < 2 ^ 54
    load_there bounds = load_small h k (replay p g.made) loads w.2 bounds g.loaded goes_below

    pub granted_refused : l < get_or loads w.2 0 + weight_of h w.1 → IsGranted h k l p ws (i + 1) moves loads
    granted_refused full = record {
      made = g.made;
      same = g.same;
      granting =
          granting_refused h k l p ws i g.made (replay p g.made) g.granting low w here wished inside
          (let is = g.loaded.each w.2 goes_below in omega arith);
      loaded = g.loaded;
    }

    module _ (from : ℕ) (is : from ≡ block_of p w.1) where
      pub comes_below : from < k
      comes_below = subst (λ b. b < k) (sym is) (whole.blocks w.1 0 (let n = whole.vertices in omega arith))

      stands : from ≡ block_of (replay p g.made) w.1
      stands = is ∙ sym (still_here h k l p ws i g.made (replay p g.made) g.granting low w here wished inside)

      long : length (replay p g.made) ≡ vertex_count h
      long = length-replay p g.made ∙ whole.vertices

      pub weight_there : weight_of h w.1 ≤ get_or loads from 0
      weight_there =
          let held = weight_held h (replay p g.made) w.1 long inside in
          let known = g.loaded.each from comes_below in
          let there = ap (load h (replay p g.made)) stands in
          omega arith

      pub weight_joins : IsWithinLimits h → get_or (set loads from (get_or loads from 0 - weight_of h w.1)) w.2 0 + weight_of h w.1 < 2 ^ 64
      weight_joins bounds =
          let small = load_small h k (replay p g.made) loads from bounds g.loaded comes_below in
          let there = weight_there in
          joined_small loads from w.2 (weight_of h w.1) (let n = g.loaded.all in let low = comes_below in omega arith) small
          (load_small h k (replay p g.made) loads w.2 bounds g.loaded goes_below) (omega arith)

      pub granted_made : (next : List Move) (last : List ℕ) → get_or loads w.2 0 + weight_of h w.1 ≤ l
          → next ≡ moves ++ record { vertex = w.1; from = from; to = w.2; worker = 0; booked = pos 0 } ∷ []
          → last ≡ loads_after loads from w.2 (weight_of h w.1) → IsGranted h k l p ws (i + 1) next last
      granted_made next last room pushed e =
          let q = replay p g.made in
          let one = move_of h q w.1 w.2 ∷ [] in
          record {
            made = g.made ++ one;
            same =
                pushed
                ∙ ap (λ (ms : List Move). ms ++ record { vertex = w.1; from = from; to = w.2; worker = 0; booked = pos 0 } ∷ []) g.same
                ∙ ap (λ (b : ℕ). map unbooked g.made ++ record { vertex = w.1; from = b; to = w.2; worker = 0; booked = pos 0 } ∷ []) stands
                ∙ sym (map-append unbooked g.made one);
            granting =
                subst (λ (r : List ℕ). IsGranting h k l p ws (i + 1) (g.made ++ one) r) (sym (replay-append p g.made one))
                (granting_made h k l p ws i g.made q g.granting low w here wished inside
                (let known = g.loaded.each w.2 goes_below in omega arith));
            loaded =
                subst (λ (r : List ℕ). IsLoaded h k r last) (sym (replay-append p g.made one))
                (subst (λ (ls : List ℕ). IsLoaded h k (moved q w.1 w.2) ls) (sym e)
                (loaded_moved h k q loads w.1 from w.2 g.loaded long inside stands comes_below goes_below));
          }
