-- What runs of the deterministic mode write doesn't depend on their workers.
use Rattle.std.proofs.Common.{◌≡◌, ℕ, List, sym, ap, subst, ◌∙◌}
use Rattle.std.specs.Prelude.{Option, Some, None, Result, Ok}
use Rattle.hg_defs.specs.Hypergraph.{Hyper, vertex_count}
use Rattle.round_log.specs.declared.record.Kind.{Kind}
use Rattle.round_log.specs.Deterministic.{det}
use Rattle.hmetis_read.specs.Graph.{graph as graph_of}
use Rattle.part_text.specs.Entries.{spelled_fixes}
use Rattle.part_text.specs.Part.{part_text}
use Rattle.part_run.specs.declared.ended.Outcome.{Outcome}
use Rattle.part_run.specs.declared.words.Mode.{Mode}
use Rattle.part_run.specs.declared.words.Mode.TheVariants.{Deterministic}
use Rattle.part_run.specs.Wanted.{Partitioning}
use Rattle.part_run.specs.Reads.{Feed, Spells, IsFixed, with_objective}
use Rattle.part_run.specs.Answers.{Inputs, Outputs, IsAccepted, IsPartitioned, IsDeterminedRun, IsReachedIn, job_for, limit_for}
use Rattle.part_run.specs.ModeLaws.{DeterministicRunsWriteFunction, WorkersChangeNoByte}
use Rattle.part_run.proofs.CompletenessLaws.{same_bytes}

-- ---- the same bytes spell the same

spelled_at : {A E : Type 0} (f : List ℕ → Result A E) (old new : Feed) (xs : List ℕ) (a : A) → old.bytes ≡ Some xs
    → Spells old new (λ bytes. f bytes ≡ Ok a) → f xs ≡ Ok a
spelled_at f old new xs a told s =
    subst (λ (bytes : List ℕ). f bytes ≡ Ok a) (same_bytes old.bytes new.bytes xs s.bytes told s.read.consumed s.read.end) s.spelled

ok_once : {A E : Type 0} (r : Result A E) (a b : A) → r ≡ Ok a → r ≡ Ok b → a ≡ b
ok_once r a b one other = cc

some_once : {A : Type 0} (o : Option A) (a b : A) → o ≡ Some a → o ≡ Some b → a ≡ b
some_once o a b one other = cc

fixed_once : (fix : Option (List ℕ)) (k : ℕ) (old new new' : Feed) (xs : List ℕ) (h one other : Hyper) → old.bytes ≡ Some xs
    → IsFixed fix k old new h one → IsFixed fix k old new' h other → one ≡ other
fixed_once None k old new new' xs h one other told a b = a.0 ∙ sym b.0
fixed_once (Some name) k old new new' xs h one other told a b =
    let f = λ (bytes : List ℕ). spelled_fixes bytes (vertex_count h) k in
    let fixes = ok_once (f xs) one.fixes other.fixes (spelled_at f old new xs one.fixes told a.fixes) (spelled_at f old new' xs other.fixes told b.fixes) in
    a.others ∙ ap (λ (ys : List ℕ). let r : Hyper = record h { fixes = ys } in r) fixes ∙ sym b.others

accepted_once : (p : Partitioning) (workers : ℕ) (i i' i'' : Inputs) (xs ys : List ℕ) (h g : Hyper) → i.graph.bytes ≡ Some xs
    → i.extra.bytes ≡ Some ys → IsAccepted p i i' h → IsAccepted (record p { workers = workers }) i i'' g → h ≡ g
accepted_once p workers i i' i'' xs ys h g told told' a b =
    fixed_once p.fix p.k i.extra i'.extra i''.extra ys (with_objective p.objective a.spelled) h g told' a.fixed
    (subst (λ (x : Hyper). IsFixed p.fix p.k i.extra i''.extra (with_objective p.objective x) g)
    (ok_once (graph_of xs) b.spelled a.spelled (spelled_at graph_of i.graph i''.graph xs b.spelled told b.graph.graph)
    (spelled_at graph_of i.graph i'.graph xs a.spelled told a.graph.graph)) b.fixed)

-- ---- the laws

determined_by : (kinds : List Kind) (p : Partitioning) (i i' : Inputs) (o o' : Outputs) (outcome : Outcome) → p.mode ≡ Deterministic
    → (done : IsPartitioned kinds p i i' o o' outcome) → det done.hypergraph p.k (limit_for p done.hypergraph) p.seed ≡ Some outcome.blocks
determined_by kinds p i i' o o' outcome mode done =
    let by : IsDeterminedRun (job_for p) done.hypergraph outcome.trace outcome.cycles outcome.blocks =
    subst (λ (m : Mode). IsReachedIn m kinds (job_for p) done.hypergraph outcome.trace outcome.cycles outcome.blocks) mode done.made.reached in
    by.function

pub det_runs_write : DeterministicRunsWriteFunction
det_runs_write kinds p i i' o o' outcome mode done = record {
  blocks = outcome.blocks;
  function = determined_by kinds p i i' o o' outcome mode done;
  written = done.written.out.bytes;
}

pub workers_change_nothing : WorkersChangeNoByte
workers_change_nothing kinds others p workers i i' i'' o o' o'' one other xs ys mode told told' first second =
    let same = accepted_once p workers i i' i'' xs ys first.hypergraph second.hypergraph told told' first.accepted second.accepted in
    ap part_text
    (some_once (det second.hypergraph p.k (limit_for p second.hypergraph) p.seed) one.blocks other.blocks
    (subst (λ (x : Hyper). det x p.k (limit_for p x) p.seed ≡ Some one.blocks) same (determined_by kinds p i i' o o' one mode first))
    (determined_by others (record p { workers = workers }) i i'' o o'' other mode second))
