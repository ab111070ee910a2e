-- What stays in balance where an event leaves a clause alone.
use Rattle.std.proofs.Common.{◌≡◌, ℕ, ◌<◌, ◌≤◌, true, false, List, [], ◌∷◌, length, get_or, nat_lt, if◌then◌else◌, All, refl, sym, ap, ◌∙◌, subst, arith}
use Rattle.std.proofs.lemmas.Int.{ints}
use Rattle.hg_defs.specs.Hypergraph.{vertex_count, net_count}
use Rattle.hg_defs.specs.Pins.{present}
use Rattle.hg_defs.proofs.SumLaws.{weight_if, weight_if-same, total-append, sum_below-same}
use Rattle.move_core.specs.declared.account.Account.{Account}
use Rattle.move_core.specs.declared.events.Word.{Word}
use Rattle.move_core.specs.declared.events.Word.TheVariants as word
use Rattle.move_core.specs.State.{Setup, Readings, times, blank, read}
use Rattle.move_core.specs.Events.{moved_vertices, price_at}
use Rattle.move_core.specs.Balance.{InBalance, carried, named_at, stage_vertices}
use Rattle.move_core.specs.Events.{is_word, WritesWord}
use Rattle.move_core.proofs.Words.{reads_same}
use Rattle.std.proofs.lemmas.Bool.{lt-ltb, and_from}
use Rattle.move_core.proofs.TimesLaws.{All_at_times, all_at, total_at}
use Rattle.move_core.proofs.HeldLaws.{carried_below, moved_below, held_once}
use Rattle.move_core.proofs.NameLaws.{names-same, stage-same, named_below}

-- every word reads as before
pub record Same (s : Setup) (r r' : Readings) : Type 0 where
  pub claim : (v : ℕ) → v < vertex_count s.graph → r'.claim v ≡ r.claim v
  pub name : (v : ℕ) → v < vertex_count s.graph → r'.name v ≡ r.name v
  pub load : (b : ℕ) → b < s.blocks → r'.load b ≡ r.load b
  pub count : (e b : ℕ) → e < net_count s.graph → b < s.blocks → r'.count e b ≡ r.count e b
  pub spread : (e : ℕ) → e < net_count s.graph → r'.spread e ≡ r.spread e
  pub next : r'.next ≡ r.next
  pub cursor : r'.cursor ≡ r.cursor

-- a word into which its own reading was written
pub same_from_write : (s : Setup) (w : Word) (r r' : Readings) → WritesWord s w (read r w) r r' → Same s r r'
same_from_write s w r r' q = record {
  claim = λ v l. same (word.Claim v) (lt-ltb v (vertex_count s.graph) l);
  name = λ v l. same (word.Name v) (lt-ltb v (vertex_count s.graph) l);
  load = λ b l. same (word.Load b) (lt-ltb b s.blocks l);
  count = λ e b l m. same (word.Count e b) (and_from (nat_lt e (net_count s.graph)) (nat_lt b s.blocks) (lt-ltb e (net_count s.graph) l)
      (lt-ltb b s.blocks m));
  spread = λ e l. same (word.Spread e) (lt-ltb e (net_count s.graph) l);
  next = same word.Next refl;
  cursor = same word.Cursor refl;
}
  where
    same : (u : Word) → is_word s u ≡ true → read r' u ≡ read r u
    same = reads_same s w r r' q

-- words that read as before keep the books in balance
pub balance_same : (s : Setup) (r r' : Readings) (accounts : List Account) → Same s r r' → InBalance s r accounts → InBalance s r' accounts
balance_same s r r' accounts e b = record {
  claims = record {
    word = λ v l. e.claim v l ∙ b.claims.word v l;
    once = λ v l. subst (λ x. x ≤ 1) (sym (e.claim v l)) (b.claims.once v l);
    free = λ v l f. e.claim v l ∙ b.claims.free v l f;
    range = b.claims.range;
  };
  loads = record {
    word = λ c l. let x = e.load c l in let y = b.loads.word c l in omega arith;
    limit = λ c l. let x = e.load c l in let y = b.loads.limit c l in omega arith;
  };
  names = record {
    done = λ k d l. names-same r.name r'.name (get_or accounts k d).moves
        (λ j y p. e.name (get_or (get_or accounts k d).moves j y).vertex (moved_below s r accounts b.claims b.moves k d l j y p)) (b.names.done k d l);
    stages = λ k d l. stage-same r.name r'.name (get_or accounts k d).stage
        (λ j y p. e.name (get_or (named_at (get_or accounts k d).stage) j y) (named_below s r r' accounts b.claims b.moves b.names k d l j y p))
        (b.names.stages k d l);
    others = λ v l z. e.name v l ∙ b.names.others v l z;
  };
  counts = record {
    word = λ f c l m. let x = e.count f c l m in let y = b.counts.word f c l m in omega arith;
    steps = b.counts.steps;
  };
  moves = b.moves;
  numbers = record {
    each = λ j. b.numbers.each j ∙ ap (λ n. if nat_lt j n then 1 else 0) (sym e.next);
    lengths = b.numbers.lengths;
  };
  gains = b.gains;
  sum = record {
    gains =
        let x = b.sum.gains in
        let y = sum_below-same (λ f. price_at s.graph f (r'.spread f)) (λ f. price_at s.graph f (r.spread f)) (net_count s.graph)
        (λ f l. ap (price_at s.graph f) (e.spread f l)) in
        omega (arith, ints);
  };
  rest = record { made = b.rest.made; cursor = e.cursor ∙ b.rest.cursor; seeds = b.rest.seeds; ended = b.rest.ended };
  spreads = record {
    word = λ f l.
        let x = e.spread f l in
        let y = b.spreads.word f l in
        let z = sum_below-same (λ c. present (r'.count f c)) (λ c. present (r.count f c)) s.blocks (λ c m. ap present (e.count f c l m)) in
        omega arith;
    owed = b.spreads.owed;
  };
  bounds = b.bounds;
  workers = b.workers;
  prefixes = b.prefixes;
}

-- what a pass holds of the vertex of its stage
pub record IsCarried (s : Setup) (a : Account) (v : ℕ) : Type 0 where
  pub vertex : v < vertex_count s.graph
  pub held : 0 < times v a.held
  pub unmoved : times v (moved_vertices a) ≡ 0

module _ (s : Setup) (r : Readings) (accounts : List Account) (i : ℕ) (a : Account) (l : i < length accounts) (at : get_or accounts i (blank false) ≡ a)
    (b : InBalance s r accounts) where
  pub stage_carried : (v : ℕ) → stage_vertices a.stage ≡ v ∷ [] → IsCarried s a v
  stage_carried v e =
      let w = weight_if-same v v 1 refl in
      let one : times v (stage_vertices a.stage) ≡ 1 = ap (times v) e ∙ (omega arith) in
      let parts = total-append (λ x. weight_if x v 1) (moved_vertices a) (stage_vertices a.stage) in
      let inside = all_at accounts i a a l at (λ x. (u : ℕ) → times u (carried x) ≤ times u x.held) b.moves.held v in
      let below : v < vertex_count s.graph =
      All_at_times (λ x. x < vertex_count s.graph) (carried a) v
      (all_at accounts i a a l at (λ (x : Account). All (λ y. y < vertex_count s.graph) (carried x)) (carried_below s r accounts b.claims b.moves))
      (omega arith) in
      let t = total_at accounts i a a l at (λ x. times v x.held) in
      let o = held_once s r accounts b.claims b.moves v below in
      record { vertex = below; held = omega arith; unmoved = omega arith }
