-- Laws of a sweep, vertex by vertex.
use Rattle.std.proofs.Common.{◌≡◌, ℕ, suc, ◌+◌, ◌-◌, ◌<◌, ◌≤◌, List, [], ◌∷◌, ◌++◌, Option, option_map, option_to_list}
use Rattle.std.proofs.Common.{Bool, true, false, nat_lt, length, refl, sym, ap, subst, ◌∙◌, arith}
use Rattle.std.proofs.lemmas.List.{append_assoc, append-nil, length-append}
use Rattle.std.specs.List.{range_with_len}
use Rattle.hg_defs.specs.declared.moves.Move.{Move}
use Rattle.hg_defs.specs.Hypergraph.{Hyper, vertex_count}
use Rattle.hg_defs.specs.Replay.{replay}
use Rattle.hg_defs.specs.Moves.{IsSettled, move_of, best_block, visit, visits, sweep}
use Rattle.pin_plain.specs.Parted.{Parted}
use Rattle.std.proofs.lemmas.Bool.{ltb-true}
use Rattle.hg_defs.proofs.ReplayLaws.{replay-append}
use Rattle.hg_defs.proofs.MoveLaws.{empty_sweep, settled_sweep}

-- the vertices below v were visited: the moves so far stand in the log, and those of the other vertices follow
pub record IsSweeping (h : Hyper) (k l : ℕ) (p q : List ℕ) (v : ℕ) (logged now : List Move) : Type 0 where
  pub made : List Move
  pub log : now ≡ logged ++ made
  pub rest : made ++ visits h k l q (range_with_len v (vertex_count h - v)) ≡ sweep h k l p
  pub blocks : q ≡ replay p made

pub sweeping_first : (h : Hyper) (k l : ℕ) (p : List ℕ) (logged : List Move) → IsSweeping h k l p p 0 logged logged
sweeping_first h k l p logged = record {
  made = [];
  log = sym (append-nil logged);
  rest = ap (λ n. visits h k l p (range_with_len 0 n)) (let e : vertex_count h - 0 ≡ vertex_count h = omega arith in e);
  blocks = refl;
}

pub sweeping_more : (h : Hyper) (k l : ℕ) (p q : List ℕ) (v : ℕ) (logged now got : List Move) → v < vertex_count h → got ≡ visit h k l q v →
    IsSweeping h k l p q v logged now → IsSweeping h k l p (replay q got) (v + 1) logged (now ++ got)
sweeping_more h k l p q v logged now got inside is s = record {
  made = s.made ++ got;
  log = ap (λ xs. xs ++ got) s.log ∙ append_assoc logged s.made got;
  rest = append_assoc s.made got (visits h k l (replay q got) (range_with_len (v + 1) (vertex_count h - (v + 1)))) ∙ ap (λ xs. s.made ++ xs) next ∙ s.rest;
  blocks = ap (λ r. replay r got) s.blocks ∙ sym (replay-append p s.made got);
}
  where
    next : got ++ visits h k l (replay q got) (range_with_len (v + 1) (vertex_count h - (v + 1))) ≡ visits h k l q (range_with_len v (vertex_count h - v))
    next =
        ap (λ (xs : List Move). xs ++ visits h k l (replay q xs) (range_with_len (v + 1) (vertex_count h - (v + 1)))) is
        ∙ ap (λ n. visits h k l q (range_with_len v n)) (let e : 1 + (vertex_count h - (v + 1)) ≡ vertex_count h - v = omega arith in
        sym (one_more (vertex_count h - (v + 1))) ∙ e)
      where
        one_more : (n : ℕ) → 1 + n ≡ suc n
        one_more n = omega arith

module _ (h : Hyper) (k l : ℕ) (p q : List ℕ) (v : ℕ) (logged now : List Move) (end : vertex_count h ≤ v) (s : IsSweeping h k l p q v logged now) where
  made_all : s.made ≡ sweep h k l p
  made_all =
      let none : vertex_count h - v ≡ 0 = omega arith in
      sym (append-nil s.made) ∙ sym (ap (λ n. s.made ++ visits h k l q (range_with_len v n)) none) ∙ s.rest

  pub swept_log : now ≡ logged ++ sweep h k l p
  swept_log = s.log ∙ ap (λ xs. logged ++ xs) made_all

  pub swept_blocks : q ≡ replay p (sweep h k l p)
  swept_blocks = s.blocks ∙ ap (replay p) made_all

-- a log that didn't grow
pub unmoved_settled : (h : Hyper) (k l : ℕ) (p : List ℕ) (logged now : List Move) → now ≡ logged ++ sweep h k l p → length now ≤ length logged →
    IsSettled h k l p
unmoved_settled h k l p logged now e less =
    empty_sweep h k l p (none (sweep h k l p) (let a = ap length e in let b = length-append logged (sweep h k l p) in omega arith))
  where
    none : (xs : List Move) → length xs ≤ 0 → xs ≡ []
    none [] h = refl
    none (x ∷ xs) h = absurd (omega arith)

pub settled_unmoved : (h : Hyper) (k l : ℕ) (p : List ℕ) (logged now : List Move) → now ≡ logged ++ sweep h k l p → IsSettled h k l p →
    length now ≤ length logged
settled_unmoved h k l p logged now e settled =
    let a = ap length e in
    let b = length-append logged (sweep h k l p) in
    let c = ap length (settled_sweep h k l p settled) in
    omega arith

-- ---- one visit, of the partition as it is now

pub same_step : (first now next : Parted) (bs : List ℕ) → now ≡ record first { blocks = now.blocks } → next ≡ record now { blocks = bs } →
    next ≡ record first { blocks = next.blocks }
same_step first now next bs e f =
    f ∙ ap (λ (x : Parted). record x { blocks = bs }) e ∙ ap (λ (b : List ℕ). record first { blocks = b }) (sym (ap (λ (x : Parted). x.blocks) f))

pub visit_more :
    (h : Hyper) (first now next : Parted) (v : ℕ) (logged items later : List Move) (r : Option Move) → now ≡ record first { blocks = now.blocks } →
    v < vertex_count h
    → r ≡ option_map (move_of h now.blocks v) (best_block h now.limit now.blocks v now.k)
    → next ≡ record now { blocks = replay now.blocks (option_to_list r) }
    → later ≡ items ++ option_to_list r
    → IsSweeping h first.k first.limit first.blocks now.blocks v logged items
    → IsSweeping h first.k first.limit first.blocks next.blocks (v + 1) logged later
visit_more h first now next v logged items later r same inside made after log s =
    subst (λ (xs : List Move). IsSweeping h first.k first.limit first.blocks next.blocks (v + 1) logged xs) (sym log)
    (subst (λ (q : List ℕ). IsSweeping h first.k first.limit first.blocks q (v + 1) logged (items ++ option_to_list r))
    (sym (ap (λ (x : Parted). x.blocks) after))
    (sweeping_more h first.k first.limit first.blocks now.blocks v logged items (option_to_list r) inside
    (ap option_to_list made
    ∙ ap (λ (n : ℕ). option_to_list (option_map (move_of h now.blocks v) (best_block h now.limit now.blocks v n))) (ap (λ (x : Parted). x.k) same)
    ∙ ap (λ (n : ℕ). option_to_list (option_map (move_of h now.blocks v) (best_block h n now.blocks v first.k))) (ap (λ (x : Parted). x.limit) same))
    s))

pub ltb_no : (a b : ℕ) → b ≤ a → nat_lt a b ≡ false
ltb_no a b h = by (nat_lt a b) refl
  where
    by : (t : Bool) → nat_lt a b ≡ t → t ≡ false
    by true e = let l = ltb-true a b e in absurd (omega arith)
    by false e = refl
