-- Laws of the best moves of listed vertices.
use Rattle.std.proofs.Common.{◌≡◌, ℕ, ◌+◌, ◌-◌, ◌<◌, ◌≤◌, List, [], ◌∷◌, ◌++◌, drop, length, slice_index}
use Rattle.std.proofs.Common.{Option, Some, None, option_map, option_to_list, pos, ◌-ℤ◌, sym, ap, ◌∙◌, arith}
use Rattle.std.specs.declared.cmp.Reverse.{Reverse}
use Rattle.std.proofs.lemmas.Int.{ints}
use Rattle.std.proofs.lemmas.List.{append_assoc, append-nil, drop_all, drop_more}
use Rattle.hg_defs.specs.Hypergraph.{Hyper}
use Rattle.hg_defs.specs.Cost.{cost}
use Rattle.hg_defs.specs.Moves.{moved, gain, best_block}
use Rattle.pin_plain.specs.BestMoves.{ranked, best_moves}

-- a gain that was told is what the move saves
pub ranked_is : (h : Hyper) (p : List ℕ) (v b g : ℕ) → pos g ≡ gain h p v b → (record { 0 = g }, v, b) ≡ ranked h p v b
ranked_is h p v b g e = ap (λ (x : ℕ). (record { 0 = x }, v, b)) (saved g (cost h p) (cost h (moved p v b)) e)
  where
    saved : (g x y : ℕ) → pos g ≡ pos x -ℤ pos y → g ≡ x - y
    saved g x y e = omega (arith, ints)

module _ (h : Hyper) (k l : ℕ) (p : List ℕ) where
  -- the best moves from a place of the list on begin with those of the vertex there
  pub best_first : (vs : List ℕ) (i : ℕ) → i < length vs → best_moves h k l p (drop i vs)
      ≡ option_to_list (option_map (ranked h p (slice_index vs i)) (best_block h l p (slice_index vs i) k)) ++ best_moves h k l p (drop (i + 1) vs)
  best_first vs i low = ap (best_moves h k l p) (drop_more vs i 0 low)

  pub best_none : (vs : List ℕ) (i : ℕ) (found all : List (Reverse ℕ × ℕ × ℕ)) → i < length vs → best_block h l p (slice_index vs i) k ≡ None
      → found ++ best_moves h k l p (drop i vs) ≡ all
      → found ++ best_moves h k l p (drop (i + 1) vs) ≡ all
  best_none vs i found all low none e =
      ap (λ (o : Option ℕ). found ++ (option_to_list (option_map (ranked h p (slice_index vs i)) o) ++ best_moves h k l p (drop (i + 1) vs))) (sym none)
      ∙ ap (λ xs. found ++ xs) (sym (best_first vs i low))
      ∙ e

  pub best_some : (vs : List ℕ) (i b : ℕ) (found new all : List (Reverse ℕ × ℕ × ℕ)) → i < length vs → best_block h l p (slice_index vs i) k ≡ Some b
      → new ≡ found ++ ranked h p (slice_index vs i) b ∷ []
      → found ++ best_moves h k l p (drop i vs) ≡ all
      → new ++ best_moves h k l p (drop (i + 1) vs) ≡ all
  best_some vs i b found new all low some is e =
      ap (λ xs. xs ++ best_moves h k l p (drop (i + 1) vs)) is
      ∙ append_assoc found (ranked h p (slice_index vs i) b ∷ []) (best_moves h k l p (drop (i + 1) vs))
      ∙ ap (λ (o : Option ℕ). found ++ (option_to_list (option_map (ranked h p (slice_index vs i)) o) ++ best_moves h k l p (drop (i + 1) vs))) (sym some)
      ∙ ap (λ xs. found ++ xs) (sym (best_first vs i low))
      ∙ e

  pub best_all : (vs : List ℕ) (i : ℕ) (found all : List (Reverse ℕ × ℕ × ℕ)) → length vs ≤ i → found ++ best_moves h k l p (drop i vs) ≡ all → found ≡ all
  best_all vs i found all end e =
      sym (append-nil found) ∙ ap (λ xs. found ++ best_moves h k l p xs) (sym (drop_all i vs end)) ∙ e
