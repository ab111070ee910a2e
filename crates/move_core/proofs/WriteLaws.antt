-- A number written into a word of a state: what the words read, and that none is lost.
use Rattle.std.proofs.Common.{◌≡◌, ◌≢◌, ℕ, ◌*◌, ◌<◌, true, List, length, length-set, get_or-set_same}
use Rattle.std.proofs.Common.{get_or-set_other, slice_index, slice_set, nat_lt, refl, ap, ◌∙◌, arith}
use Rattle.std.proofs.lemmas.Bool.{ltb-true, and_parts}
use Rattle.std.proofs.lemmas.Nat.{same_from_place, mul-add-lt}
use Rattle.hg_defs.specs.Hypergraph.{vertex_count, net_count}
use Rattle.move_core.specs.declared.events.Word.{Word}
use Rattle.move_core.specs.declared.events.Word.TheVariants as word
use Rattle.move_core.specs.State.{State, read, readings, written, count_place}
use Rattle.move_core.specs.Events.{is_word, WritesWord}
use Rattle.move_core.specs.Balance.{IsShaped}

-- a list with one number changed, at that place and at another
set_here : (xs : List ℕ) (i x n : ℕ) → length xs ≡ n → nat_lt i n ≡ true → slice_index (slice_set xs i x) i ≡ x
set_here xs i x n e h = get_or-set_same xs i x 0 (let l = ltb-true i n h in omega arith)

set_other : (xs : List ℕ) (i x j : ℕ) → j ≢ i → slice_index (slice_set xs i x) j ≡ slice_index xs j
set_other xs i x j n = get_or-set_other xs i j x 0 n

pub place-below : (k e b m : ℕ) → e < m → b < k → count_place k e b < m * k
place-below k e b m le lb = let x = mul-add-lt e k b m le lb in omega arith

-- a number written into a word that exists
pub writes_at : (s : State) (w : Word) (x : ℕ) → IsShaped s → is_word s.setup w ≡ true → WritesWord s.setup w x (readings s) (readings (written s w x))
writes_at s w x h l = record { here = here s w x h l; others = λ u m n. others s w x l u m n }
  where
    here : (s : State) (w : Word) (x : ℕ) → IsShaped s → is_word s.setup w ≡ true → read (readings (written s w x)) w ≡ x
    here s (word.Claim v) x h l = set_here s.claims v x (vertex_count s.setup.graph) h.claims l
    here s (word.Name v) x h l = set_here s.names v x (vertex_count s.setup.graph) h.names l
    here s (word.Load b) x h l = set_here s.loads b x s.setup.blocks h.loads l
    here s (word.Count e b) x h l =
        let p = and_parts (nat_lt e (net_count s.setup.graph)) (nat_lt b s.setup.blocks) l in
        let q = place-below s.setup.blocks e b (net_count s.setup.graph) (ltb-true e (net_count s.setup.graph) p.0) (ltb-true b s.setup.blocks p.1) in
        get_or-set_same s.counts (count_place s.setup.blocks e b) x 0 (let n = h.counts in omega arith)
    here s (word.Spread e) x h l = set_here s.spreads e x (net_count s.setup.graph) h.spreads l
    here s word.Next x h l = refl
    here s word.Cursor x h l = refl

    others : (s : State) (w : Word) (x : ℕ) → is_word s.setup w ≡ true → (u : Word) → is_word s.setup u ≡ true → u ≢ w
        → read (readings (written s w x)) u ≡ read (readings s) u
    others s (word.Claim v) x l (word.Claim u) m n = set_other s.claims v x u (λ e. n (ap word.Claim e))
    others s (word.Name v) x l (word.Name u) m n = set_other s.names v x u (λ e. n (ap word.Name e))
    others s (word.Load b) x l (word.Load c) m n = set_other s.loads b x c (λ e. n (ap word.Load e))
    others s (word.Count e b) x l (word.Count f c) m n =
        let p = and_parts (nat_lt e (net_count s.setup.graph)) (nat_lt b s.setup.blocks) l in
        let q = and_parts (nat_lt f (net_count s.setup.graph)) (nat_lt c s.setup.blocks) m in
        set_other s.counts (count_place s.setup.blocks e b) x (count_place s.setup.blocks f c)
        (λ y. let z = same_from_place f c e b s.setup.blocks (ltb-true c s.setup.blocks q.1) (ltb-true b s.setup.blocks p.1) y in
        n (ap (λ t. word.Count t c) z.0 ∙ ap (word.Count e) z.1))
    others s (word.Spread e) x l (word.Spread f) m n = set_other s.spreads e x f (λ y. n (ap word.Spread y))
    others s word.Next x l word.Next m n = absurd (n refl)
    others s word.Cursor x l word.Cursor m n = absurd (n refl)
    others s _ x l _ m n = refl

pub shaped_written : (s : State) (w : Word) (x : ℕ) → IsShaped s → IsShaped (written s w x)
shaped_written s (word.Claim v) x h = record {
  claims = length-set s.claims v x ∙ h.claims;
  names = h.names;
  loads = h.loads;
  counts = h.counts;
  spreads =
      h.spreads;
}
shaped_written s (word.Name v) x h = record {
  claims = h.claims;
  names = length-set s.names v x ∙ h.names;
  loads = h.loads;
  counts = h.counts;
  spreads =
      h.spreads;
}
shaped_written s (word.Load b) x h = record {
  claims = h.claims;
  names = h.names;
  loads = length-set s.loads b x ∙ h.loads;
  counts = h.counts;
  spreads =
      h.spreads;
}
shaped_written s (word.Count e b) x h = record {
  claims = h.claims;
  names = h.names;
  loads = h.loads;
  counts =
      length-set s.counts (count_place s.setup.blocks e b) x ∙ h.counts;
  spreads = h.spreads;
}
shaped_written s (word.Spread e) x h = record {
  claims = h.claims;
  names = h.names;
  loads = h.loads;
  counts = h.counts;
  spreads = length-set s.spreads e x
      ∙ h.spreads;
}
shaped_written s word.Next x h = record { claims = h.claims; names = h.names; loads = h.loads; counts = h.counts; spreads = h.spreads }
shaped_written s word.Cursor x h = record { claims = h.claims; names = h.names; loads = h.loads; counts = h.counts; spreads = h.spreads }

pub setup_written : (s : State) (w : Word) (x : ℕ) → (written s w x).setup ≡ s.setup
setup_written s (word.Claim v) x = refl
setup_written s (word.Name v) x = refl
setup_written s (word.Load b) x = refl
setup_written s (word.Count e b) x = refl
setup_written s (word.Spread e) x = refl
setup_written s word.Next x = refl
setup_written s word.Cursor x = refl
