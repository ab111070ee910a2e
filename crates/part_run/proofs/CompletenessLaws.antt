-- A run that is served and meets no fault comes to its end.
use Rattle.std.proofs.Common.{◌≡◌, ℕ, ◌+◌, ◌*◌, ◌^◌, ◌≤◌, List, ◌++◌, length, inl, inr, refl, sym, ap, ◌∙◌, subst, arith, append-nil}
use Rattle.std.specs.Prelude.{Option, Some, None, Result, Ok, Err, ◌⊎◌}
use Rattle.std.proofs.lemmas.List.{length-append}
use Rattle.std.specs.Io.KnownBytes.{Consumes, IsAtEnd}
use Rattle.hg_defs.specs.Hypergraph.{Hyper, vertex_count, net_count, Suits}
use Rattle.hg_defs.specs.LeastLoaded.{overfills}
use Rattle.hg_io.specs.Faults.{Rose}
use Rattle.hg_io.specs.Transfers.{ConsumesMoreThan}
use Rattle.round_log.specs.declared.record.Kind.{Kind}
use Rattle.hmetis_read.specs.Graph.{graph}
use Rattle.hmetis_read.specs.declared.fault.What.{What}
use Rattle.hmetis_read.specs.declared.fault.What.TheVariants as what
use Rattle.part_text.specs.Entries.{Fault, spelled_part, spelled_fixes}
use Rattle.part_run.specs.declared.status.Status.{Status}
use Rattle.part_run.specs.declared.status.Status.TheVariants.{Done, Usage, Malformed, TooLarge, Unplaced, ReadFault}
use Rattle.part_run.specs.declared.status.Status.TheVariants.{WriteFault, NoMemory, BadPartition, BadFix}
use Rattle.part_run.specs.declared.ended.Outcome.{Outcome}
use Rattle.part_run.specs.Wanted.{Partition, Evaluate, Generate, SelfRun, Partitioning, Evaluation}
use Rattle.part_run.specs.Reads.{Feed, most_bytes, WasRead, Spells, GivesTooMuch, PassesLimit, IsTooMany, IsGraphRefusal}
use Rattle.part_run.specs.Reads.{IsFixRefusal, IsPartRefusal, IsExtraTooLarge, IsFixed, with_objective}
use Rattle.part_run.specs.Answers.{Inputs, Outputs, IsPartitionEnd, IsEvaluationEnd, IsGenerationEnd, IsPartitionRefused, IsEvaluationRefused}
use Rattle.part_run.specs.Answers.{IsGenerationRefusal, IsGraphRefused, IsInputRefused, IsPlaceRefused}
use Rattle.part_run.specs.Answers.{IsAccepted, IsFixRefused, IsPlaceRefusal, IsPartRefused, IsWriteRefusal, job_for, limit_for}
use Rattle.part_run.specs.Answers.{trial_job, IsTrialRefusal, IsTrialEnd}
use Rattle.round_log.specs.Trace.{limit_of}
use Rattle.hg_make.specs.Made.{made}
use Rattle.part_run.specs.Completeness.{AreFaultless, Gives, GivesFixes, IsPartitionable, IsEvaluable, RunsComeToTheirEnd}

-- what was read to its end is what the source told
pub same_bytes : (old new : Option (List ℕ)) (xs bytes : List ℕ) → old ≡ Some xs → Consumes old new bytes → IsAtEnd new → bytes ≡ xs
same_bytes None new xs bytes told consumed end = cc
same_bytes (Some ys) None xs bytes told consumed end = absurd consumed
same_bytes (Some ys) (Some zs) xs bytes told consumed end =
    sym (append-nil bytes) ∙ ap (λ (rest : List ℕ). bytes ++ rest) (sym end) ∙ sym consumed ∙ some_same told
  where
    some_same : Some ys ≡ Some xs → ys ≡ xs
    some_same e = cc

read_same : (old new : Feed) (spells : List ℕ → Type 0) (g : Gives old spells) (bytes : List ℕ) → WasRead old new bytes → bytes ≡ g.bytes
read_same old new spells g bytes read = same_bytes old.bytes new.bytes g.bytes bytes g.told read.consumed read.end

-- a source that tells few bytes doesn't give too many
few_enough : (old new : Option (List ℕ)) (xs : List ℕ) → old ≡ Some xs → length xs ≤ most_bytes → ConsumesMoreThan old new most_bytes → ⊥
few_enough None new xs told few more = cc
few_enough (Some ys) None xs told few (bytes, more) = absurd more.0
few_enough (Some ys) (Some zs) xs told few (bytes, more) =
    let same : ys ≡ xs = cc in
    let long = ap length (sym same ∙ more.0) in
    let past = more.1 in
    let sum = length-append bytes zs in
    absurd (omega arith)

not_too_much : (old new : Feed) (spells : List ℕ → Type 0) → Gives old spells → GivesTooMuch old new → ⊥
not_too_much old new spells g more = few_enough old.bytes new.bytes g.bytes g.told g.within more.bytes

-- an answer and a fault aren't the same
no_fault : {A E : Type 0} (r : Result A E) (a : A) (e : E) → r ≡ Ok a → r ≡ Err e → ⊥
no_fault r a e ok err = cc

none_some : (r : Option ℕ) (v : ℕ) → r ≡ None → r ≡ Some v → ⊥
none_some r v none some = cc

one_answer : {A E : Type 0} (r : Result A E) (a b : A) → r ≡ Ok a → r ≡ Ok b → a ≡ b
one_answer r a b first second = cc

-- ---- each refusal of a source is ruled out

-- a source that gives what `reads` answers to spells nothing else, and has no fault
module _ {A E : Type 0} (reads : List ℕ → Result A E) (old new : Feed) (a : A) (g : Gives old (λ bytes. reads bytes ≡ Ok a)) where
  spells_same : (b : A) → Spells old new (λ bytes. reads bytes ≡ Ok b) → b ≡ a
  spells_same b told =
      one_answer (reads g.bytes) b a (subst (λ (bytes : List ℕ). reads bytes ≡ Ok b) (read_same old new (λ bytes. reads bytes ≡ Ok a) g told.bytes
      told.read)
      told.spelled) g.spelled

  spells_no_fault : (e : E) → Spells old new (λ bytes. reads bytes ≡ Err e) → ⊥
  spells_no_fault e told =
      no_fault (reads g.bytes) a e g.spelled (subst (λ (bytes : List ℕ). reads bytes ≡ Err e) (read_same old new (λ bytes. reads bytes ≡ Ok a) g told.bytes
      told.read) told.spelled)

  gives_few : GivesTooMuch old new → ⊥
  gives_few more = not_too_much old new (λ bytes. reads bytes ≡ Ok a) g more

-- the graph
module _ (k : ℕ) (old new : Feed) (h : Hyper) (g : Gives old (λ bytes. graph bytes ≡ Ok h)) (suits : Suits h k) (faultless : Rose old.faults new.faults → ⊥)
  where
    few_counts : IsTooMany k old new → ⊥
    few_counts many =
        let same = spells_same graph old new h g many.hypergraph many.graph in
        let past = many.many in
        let bound : (vertex_count many.hypergraph + net_count many.hypergraph) * k ≤ 2 ^ 26 = subst (λ (x : Hyper). Suits x k) (sym same) suits in
        absurd (omega arith)

    within_limits : (line : ℕ) (w : What) → PassesLimit k old new line w → ⊥
    within_limits line what.Bytes past = gives_few graph old new h g past.1
    within_limits line what.Nets past = past
    within_limits line what.Vertices past = past
    within_limits line what.Pins past = past
    within_limits line what.Words past = few_counts past.1
    within_limits line what.ExtraBytes past = past

    graph_taken : (s : Status) → IsGraphRefusal k old new s → s ≡ NoMemory
    graph_taken Done cause = absurd cause
    graph_taken Usage cause = absurd cause
    graph_taken (Malformed line kind) cause = absurd (spells_no_fault graph old new h g _ cause)
    graph_taken (TooLarge line w) (inl past) = absurd (within_limits line w past)
    graph_taken (TooLarge line w) (inr told) = absurd (spells_no_fault graph old new h g _ told)
    graph_taken (Unplaced v) cause = absurd cause
    graph_taken ReadFault cause = absurd (faultless cause.fault)
    graph_taken WriteFault cause = absurd cause
    graph_taken NoMemory cause = refl
    graph_taken (BadPartition line kind) cause = absurd cause
    graph_taken (BadFix line kind) cause = absurd cause

-- an extra source of n entries for k blocks
module _ (n k : ℕ) (old new : Feed) (entries : List ℕ) (faultless : Rose old.faults new.faults → ⊥) where
  few_bytes : (reads : List ℕ → Result (List ℕ) Fault) → Gives old (λ bytes. reads bytes ≡ Ok entries) → (line : ℕ) (w : What) →
      IsExtraTooLarge old new line
      w → ⊥
  few_bytes reads g line what.Bytes past = past
  few_bytes reads g line what.Nets past = past
  few_bytes reads g line what.Vertices past = past
  few_bytes reads g line what.Pins past = past
  few_bytes reads g line what.Words past = past
  few_bytes reads g line what.ExtraBytes past = gives_few reads old new entries g past.1

  fixes_taken : Gives old (λ bytes. spelled_fixes bytes n k ≡ Ok entries) → (s : Status) → IsFixRefusal n k old new s → s ≡ NoMemory
  fixes_taken g Done cause = absurd cause
  fixes_taken g Usage cause = absurd cause
  fixes_taken g (Malformed line kind) cause = absurd cause
  fixes_taken g (TooLarge line w) cause = absurd (few_bytes (λ bytes. spelled_fixes bytes n k) g line w cause)
  fixes_taken g (Unplaced v) cause = absurd cause
  fixes_taken g ReadFault cause = absurd (faultless cause.fault)
  fixes_taken g WriteFault cause = absurd cause
  fixes_taken g NoMemory cause = refl
  fixes_taken g (BadPartition line kind) cause = absurd cause
  fixes_taken g (BadFix line kind) cause = absurd (spells_no_fault (λ bytes. spelled_fixes bytes n k) old new entries g _ cause)

  part_taken : Gives old (λ bytes. spelled_part bytes n k ≡ Ok entries) → (s : Status) → IsPartRefusal n k old new s → s ≡ NoMemory
  part_taken g Done cause = absurd cause
  part_taken g Usage cause = absurd cause
  part_taken g (Malformed line kind) cause = absurd cause
  part_taken g (TooLarge line w) cause = absurd (few_bytes (λ bytes. spelled_part bytes n k) g line w cause)
  part_taken g (Unplaced v) cause = absurd cause
  part_taken g ReadFault cause = absurd (faultless cause.fault)
  part_taken g WriteFault cause = absurd cause
  part_taken g NoMemory cause = refl
  part_taken g (BadPartition line kind) cause = absurd (spells_no_fault (λ bytes. spelled_part bytes n k) old new entries g _ cause)
  part_taken g (BadFix line kind) cause = absurd cause

-- ---- `partition`

module _ (kinds : List Kind) (p : Partitioning) (i i' : Inputs) (o o' : Outputs) (g : IsPartitionable p i) (f : AreFaultless i i' o o') where
  -- the hypergraph that was accepted is the one that is given
  accepted_same : (h : Hyper) → IsAccepted p i i' h → h ≡ g.fixed
  accepted_same h a =
      let same = spells_same graph i.graph i'.graph g.spelled g.graph a.spelled a.graph.graph in
      fixed_same p.fix g.fixes (subst (λ (x : Hyper). IsFixed p.fix p.k i.extra i'.extra (with_objective p.objective x) h) same a.fixed)
    where
      fixed_same : (fix : Option (List ℕ)) → GivesFixes fix p.k i.extra (with_objective p.objective g.spelled) g.fixed → IsFixed fix p.k i.extra i'.extra
          (with_objective p.objective g.spelled) h → h ≡ g.fixed
      fixed_same None given fixed = fixed.0 ∙ sym given
      fixed_same (Some name) given fixed =
          let base = with_objective p.objective g.spelled in
          let fixes = spells_same (λ bytes. spelled_fixes bytes (vertex_count base) p.k) i.extra i'.extra g.fixed.fixes given.0 h.fixes fixed.fixes in
          fixed.others ∙ ap (λ (xs : List ℕ). record base { fixes = xs }) fixes ∙ sym given.1

  input_taken : (s : Status) → IsInputRefused p i i' o o' s → s ≡ NoMemory
  input_taken s refused = by refused.cause
    where
      extra : (fix : Option (List ℕ)) → GivesFixes fix p.k i.extra (with_objective p.objective g.spelled) g.fixed → (name : List ℕ) → fix ≡ Some name →
          (h : Hyper) → h ≡ g.spelled
          → IsFixRefusal (vertex_count h) p.k i.extra i'.extra s → s ≡ NoMemory
      extra None given name named h same cause = cc
      extra (Some other) given name named h same cause =
          fixes_taken (vertex_count g.spelled) p.k i.extra i'.extra g.fixed.fixes f.extra given.0 s
          (subst (λ (x : Hyper). IsFixRefusal (vertex_count x) p.k i.extra i'.extra s) same cause)

      by : (IsGraphRefused p.k i i' s ⊎ IsFixRefused p i i' s) → s ≡ NoMemory
      by (inl graph) = graph_taken p.k i.graph i'.graph g.spelled g.graph g.suits f.graph s graph.cause
      by (inr fix) = extra p.fix g.fixes fix.named.0 fix.named.1 fix.hypergraph (spells_same graph i.graph i'.graph g.spelled g.graph fix.hypergraph
          fix.graph.graph) fix.cause

  is_placed : (s : Status) → IsPlaceRefused p i i' o o' s → s ≡ NoMemory
  is_placed s refused = by s refused.cause
    where
      none : (v : ℕ) → overfills refused.hypergraph p.k (limit_for p refused.hypergraph) ≡ Some v → ⊥
      none v found = let same = accepted_same refused.hypergraph refused.accepted in
          none_some _ v (subst (λ (x : Hyper). overfills x p.k (limit_for p x) ≡ None) (sym same) g.placed) found

      by : (t : Status) → IsPlaceRefusal (job_for p) refused.hypergraph t → t ≡ NoMemory
      by Done cause = absurd cause
      by Usage cause = absurd cause
      by (Malformed line kind) cause = absurd cause
      by (TooLarge line w) cause = absurd cause
      by (Unplaced vertex) cause = absurd (none cause.0 cause.1)
      by ReadFault cause = absurd cause
      by WriteFault cause = absurd cause
      by NoMemory cause = refl
      by (BadPartition line kind) cause = absurd cause
      by (BadFix line kind) cause = absurd cause

  is_sent : (out_text report_text : List ℕ) (s : Status) → IsWriteRefusal o o' out_text report_text s → s ≡ NoMemory
  is_sent out_text report_text Done cause = absurd cause
  is_sent out_text report_text Usage cause = absurd cause
  is_sent out_text report_text (Malformed line kind) cause = absurd cause
  is_sent out_text report_text (TooLarge line w) cause = absurd cause
  is_sent out_text report_text (Unplaced vertex) cause = absurd cause
  is_sent out_text report_text ReadFault cause = absurd cause
  is_sent out_text report_text WriteFault (inl out) = absurd (f.out out.out.fault)
  is_sent out_text report_text WriteFault (inr report) = absurd (f.report report.report.fault)
  is_sent out_text report_text NoMemory cause = absurd cause
  is_sent out_text report_text (BadPartition line kind) cause = absurd cause
  is_sent out_text report_text (BadFix line kind) cause = absurd cause

  partition_refused : (s : Status) → IsPartitionRefused kinds p i i' o o' s → s ≡ NoMemory
  partition_refused s (inl refused) = input_taken s refused
  partition_refused s (inr (inl refused)) = is_placed s refused
  partition_refused s (inr (inr refused)) = is_sent _ _ s refused.cause

  partition_ends : (s : Status) (made : Option Outcome) → IsPartitionEnd kinds p i i' o o' s made → (s ≡ Done) ⊎ (s ≡ NoMemory)
  partition_ends Done made end = inl refl
  partition_ends Usage None end = inr (partition_refused Usage end)
  partition_ends (Malformed line kind) None end = inr (partition_refused (Malformed line kind) end)
  partition_ends (TooLarge line w) None end = inr (partition_refused (TooLarge line w) end)
  partition_ends (Unplaced v) None end = inr (partition_refused (Unplaced v) end)
  partition_ends ReadFault None end = inr (partition_refused ReadFault end)
  partition_ends WriteFault None end = inr (partition_refused WriteFault end)
  partition_ends NoMemory None end = inr refl
  partition_ends (BadPartition line kind) None end = inr (partition_refused (BadPartition line kind) end)
  partition_ends (BadFix line kind) None end = inr (partition_refused (BadFix line kind) end)
  partition_ends Usage (Some made) end = absurd end
  partition_ends (Malformed line kind) (Some made) end = absurd end
  partition_ends (TooLarge line w) (Some made) end = absurd end
  partition_ends (Unplaced v) (Some made) end = absurd end
  partition_ends ReadFault (Some made) end = absurd end
  partition_ends WriteFault (Some made) end = absurd end
  partition_ends NoMemory (Some made) end = absurd end
  partition_ends (BadPartition line kind) (Some made) end = absurd end
  partition_ends (BadFix line kind) (Some made) end = absurd end

-- ---- `evaluate`

module _ (e : Evaluation) (i i' : Inputs) (o o' : Outputs) (g : IsEvaluable e i) (f : AreFaultless i i' o o') where
  evaluation_refused : (s : Status) → IsEvaluationRefused e i i' o o' s → s ≡ NoMemory
  evaluation_refused s (inl unread) = by unread.cause
    where
      by : (IsGraphRefused e.k i i' s ⊎ IsPartRefused e i i' s) → s ≡ NoMemory
      by (inl graph) = graph_taken e.k i.graph i'.graph g.hypergraph g.graph g.suits f.graph s graph.cause
      by (inr part) =
          let same = spells_same graph i.graph i'.graph g.hypergraph g.graph part.hypergraph part.graph.graph in
          part_taken (vertex_count g.hypergraph) e.k i.extra i'.extra g.blocks f.extra g.part s
          (subst (λ (x : Hyper). IsPartRefusal (vertex_count x) e.k i.extra i'.extra s) same part.cause)
  evaluation_refused s (inr unreported) = absurd (f.report unreported.cause.report.fault)

  evaluation_ends : (s : Status) (made : Option Outcome) → IsEvaluationEnd e i i' o o' s made → (s ≡ Done) ⊎ (s ≡ NoMemory)
  evaluation_ends Done None end = inl refl
  evaluation_ends Usage None end = inr (evaluation_refused Usage end)
  evaluation_ends (Malformed line kind) None end = inr (evaluation_refused (Malformed line kind) end)
  evaluation_ends (TooLarge line w) None end = inr (evaluation_refused (TooLarge line w) end)
  evaluation_ends (Unplaced v) None end = inr (evaluation_refused (Unplaced v) end)
  evaluation_ends ReadFault None end = inr (evaluation_refused ReadFault end)
  evaluation_ends WriteFault None end = inr (evaluation_refused WriteFault end)
  evaluation_ends NoMemory None end = inr refl
  evaluation_ends (BadPartition line kind) None end = inr (evaluation_refused (BadPartition line kind) end)
  evaluation_ends (BadFix line kind) None end = inr (evaluation_refused (BadFix line kind) end)
  evaluation_ends s (Some made) end = absurd (no_outcome s end)
    where
      no_outcome : (t : Status) → IsEvaluationEnd e i i' o o' t (Some made) → ⊥
      no_outcome Done end = end
      no_outcome Usage end = end
      no_outcome (Malformed line kind) end = end
      no_outcome (TooLarge line w) end = end
      no_outcome (Unplaced v) end = end
      no_outcome ReadFault end = end
      no_outcome WriteFault end = end
      no_outcome NoMemory end = end
      no_outcome (BadPartition line kind) end = end
      no_outcome (BadFix line kind) end = end

-- ---- `generate`

module _ (n : ℕ) (i i' : Inputs) (o o' : Outputs) (f : AreFaultless i i' o o') where
  generation_refused : (s : Status) → IsGenerationRefusal n o o' s → s ≡ NoMemory
  generation_refused Done cause = absurd cause
  generation_refused Usage cause = absurd cause
  generation_refused (Malformed line kind) cause = absurd cause
  generation_refused (TooLarge line w) cause = absurd cause
  generation_refused (Unplaced v) cause = absurd cause
  generation_refused ReadFault cause = absurd cause
  generation_refused WriteFault cause = absurd (f.out cause.out.fault)
  generation_refused NoMemory cause = refl
  generation_refused (BadPartition line kind) cause = absurd cause
  generation_refused (BadFix line kind) cause = absurd cause

  generation_ends : (s : Status) (made : Option Outcome) → IsGenerationEnd n i i' o o' s made → (s ≡ Done) ⊎ (s ≡ NoMemory)
  generation_ends Done None end = inl refl
  generation_ends Usage None end = inr (generation_refused Usage end.cause)
  generation_ends (Malformed line kind) None end = inr (generation_refused (Malformed line kind) end.cause)
  generation_ends (TooLarge line w) None end = inr (generation_refused (TooLarge line w) end.cause)
  generation_ends (Unplaced v) None end = inr (generation_refused (Unplaced v) end.cause)
  generation_ends ReadFault None end = inr (generation_refused ReadFault end.cause)
  generation_ends WriteFault None end = inr (generation_refused WriteFault end.cause)
  generation_ends NoMemory None end = inr refl
  generation_ends (BadPartition line kind) None end = inr (generation_refused (BadPartition line kind) end.cause)
  generation_ends (BadFix line kind) None end = inr (generation_refused (BadFix line kind) end.cause)
  generation_ends s (Some made) end = absurd (no_outcome s end)
    where
      no_outcome : (t : Status) → IsGenerationEnd n i i' o o' t (Some made) → ⊥
      no_outcome Done end = end
      no_outcome Usage end = end
      no_outcome (Malformed line kind) end = end
      no_outcome (TooLarge line w) end = end
      no_outcome (Unplaced v) end = end
      no_outcome ReadFault end = end
      no_outcome WriteFault end = end
      no_outcome NoMemory end = end
      no_outcome (BadPartition line kind) end = end
      no_outcome (BadFix line kind) end = end

-- ---- `selfrun`

module _ (kinds : List Kind) (n k : ℕ) (i i' : Inputs) (o o' : Outputs) (suits : Suits (made n) k)
    (placed : overfills (made n) k (limit_of (made n) (trial_job k)) ≡ None) (f : AreFaultless i i' o o') where
  trial_refused : (s : Status) → IsTrialRefusal n k o o' s → s ≡ NoMemory
  trial_refused Done cause = absurd cause
  trial_refused Usage cause = absurd cause
  trial_refused (Malformed line kind) cause = absurd cause
  trial_refused (TooLarge line what.Words) cause = let many = cause.1 in absurd (omega arith)
  trial_refused (TooLarge line what.Bytes) cause = absurd cause
  trial_refused (TooLarge line what.Nets) cause = absurd cause
  trial_refused (TooLarge line what.Vertices) cause = absurd cause
  trial_refused (TooLarge line what.Pins) cause = absurd cause
  trial_refused (TooLarge line what.ExtraBytes) cause = absurd cause
  trial_refused (Unplaced v) cause = absurd (none_some _ cause.0.0 placed cause.0.1)
  trial_refused ReadFault cause = absurd cause
  trial_refused WriteFault cause = absurd (f.report cause.report.fault)
  trial_refused NoMemory cause = refl
  trial_refused (BadPartition line kind) cause = absurd cause
  trial_refused (BadFix line kind) cause = absurd cause

  trial_ends : (s : Status) (made : Option Outcome) → IsTrialEnd kinds n k i i' o o' s made → (s ≡ Done) ⊎ (s ≡ NoMemory)
  trial_ends Done made end = inl refl
  trial_ends Usage None end = inr (trial_refused Usage end.cause)
  trial_ends (Malformed line kind) None end = inr (trial_refused (Malformed line kind) end.cause)
  trial_ends (TooLarge line w) None end = inr (trial_refused (TooLarge line w) end.cause)
  trial_ends (Unplaced v) None end = inr (trial_refused (Unplaced v) end.cause)
  trial_ends ReadFault None end = inr (trial_refused ReadFault end.cause)
  trial_ends WriteFault None end = inr (trial_refused WriteFault end.cause)
  trial_ends NoMemory None end = inr refl
  trial_ends (BadPartition line kind) None end = inr (trial_refused (BadPartition line kind) end.cause)
  trial_ends (BadFix line kind) None end = inr (trial_refused (BadFix line kind) end.cause)
  trial_ends Usage (Some made) end = absurd end
  trial_ends (Malformed line kind) (Some made) end = absurd end
  trial_ends (TooLarge line w) (Some made) end = absurd end
  trial_ends (Unplaced v) (Some made) end = absurd end
  trial_ends ReadFault (Some made) end = absurd end
  trial_ends WriteFault (Some made) end = absurd end
  trial_ends NoMemory (Some made) end = absurd end
  trial_ends (BadPartition line kind) (Some made) end = absurd end
  trial_ends (BadFix line kind) (Some made) end = absurd end

pub runs_end : RunsComeToTheirEnd
runs_end kinds (Partition p) i i' o o' ended end g f = partition_ends kinds p i i' o o' g f ended.status ended.outcome end
runs_end kinds (Evaluate e) i i' o o' ended end g f = evaluation_ends e i i' o o' g f ended.status ended.outcome end
runs_end kinds (Generate n) i i' o o' ended end g f = generation_ends n i i' o o' f ended.status ended.outcome end
runs_end kinds (SelfRun n k) i i' o o' ended end g f = trial_ends kinds n k i i' o o' g.0 g.1 f ended.status ended.outcome end
