-- From one state of the run to the next there is one transformation of figure 3.
use Prim.Native.Nat.{ℕ}
use mathlib.Core.Path.{◌≡◌, refl, sym, ◌∙◌, ap}
use mathlib.Core.List.{List, [], ◌∷◌, ◌++◌, map, append-nil, append_assoc}
use Rattle.nominal.specs.Tree.{Tree, Substitution, substitute, composed, replacing}
use Rattle.nominal.specs.Solutions
use Rattle.nominal.proofs.Tree.{substitute_variable, substitute_composed}
use Rattle.problem.specs.Problem.{Node, form_at}
use Rattle.problem.specs.Readable.{Named}
use Rattle.run.specs.Meaning.{Side, side_tree, Binding, meaning}
use Rattle.run.specs.Run.{Equation, Subject, Demand, Ground, goes_on, step, pending, bindings, demands}
use Rattle.run.specs.Answer.{Asked, asked_raised, subject_tree}
use Rattle.nominal.specs.Same.{Same}
use Rattle.run.proofs.Same.{same_transitive, same_substitutions}
use Rattle.run.proofs.Bindings.{meaning_more}
use Rattle.run.proofs.States.{State}
use Rattle.figure3.specs.Figure3.{Label, ε, ◌:=◌, substitution_of, First, first, Each, AlikeDemands, AlikeEquations, AlikeProblems, AlikeSubstitutions}
use Rattle.figure3.specs.Ran.{Protected, put_asked, put_equations, state_problem}
use Rattle.figure3.proofs.Alike.{same_of, same_replacing, each_append, demands_reflexive, equations_reflexive}
use Rattle.figure3.proofs.Simulation.{meant_tree, meant_equations, meant_demands, Simulates, simplifies, binds, Stepped, step_as}

-- ---- the next state's problem

module _ (nodes : List Node) (σ : Substitution) where
  put_pending : (n : ℕ) (qs : List (Side × Side)) (es : List Equation)
      → put_equations nodes σ (pending n qs ++ es)
      ≡ map (λ q. (substitute σ (side_tree nodes q.0), substitute σ (side_tree nodes q.1))) qs ++ put_equations nodes σ es
  put_pending n [] es = refl
  put_pending n (q ∷ qs) es = ap (◌∷◌ (substitute σ (side_tree nodes q.0), substitute σ (side_tree nodes q.1))) (put_pending n qs es)

  put_demands : (n : ℕ) (d : List (ℕ × Subject)) → put_asked σ (asked_raised nodes (demands n d)) ≡ map (λ x. (x.0, substitute σ (subject_tree nodes x.1))) d
  put_demands n [] = refl
  put_demands n (x ∷ d) = ap (◌∷◌ (x.0, substitute σ (subject_tree nodes x.1))) (put_demands n d)

  put_append : (l k : List Asked) → put_asked σ (l ++ k) ≡ put_asked σ l ++ put_asked σ k
  put_append [] k = refl
  put_append (x ∷ l) k = ap (◌∷◌ (x.0, substitute σ x.1)) (put_append l k)

  raised_append : (ds fs : List Demand) → asked_raised nodes (ds ++ fs) ≡ asked_raised nodes ds ++ asked_raised nodes fs
  raised_append [] fs = refl
  raised_append (d ∷ ds) fs = ap (◌∷◌ (d.atom, subject_tree nodes d.subject)) (raised_append ds fs)

  put_raised : (asked : List Asked) (ds : List Demand) (n : ℕ) (d : List (ℕ × Subject))
      → put_asked σ (asked ++ asked_raised nodes (ds ++ demands n d))
      ≡ put_asked σ (asked ++ asked_raised nodes ds) ++ map (λ x. (x.0, substitute σ (subject_tree nodes x.1))) d
  put_raised asked ds n d =
      ap (λ (l : List Asked). put_asked σ (asked ++ l)) (raised_append ds (demands n d))
      ∙ ap (put_asked σ) (sym (append_assoc asked (asked_raised nodes ds) (asked_raised nodes (demands n d))))
      ∙ put_append (asked ++ asked_raised nodes ds) (asked_raised nodes (demands n d))
      ∙ ap (λ (l : List Solutions.TreeDemand). put_asked σ (asked ++ asked_raised nodes ds) ++ l) (put_demands n d)

-- A label put into a state's problem is the next binding put in.
module _ (σ : Substitution) (X : ℕ) {u w : Tree} (e : Same u w) where
  put_same : (t : Tree) → Same (substitute (replacing X u) (substitute σ t)) (substitute (composed (replacing X w) σ) t)
  put_same t =
      same_transitive (same_substitutions (replacing X u) (replacing X w) (same_replacing X e) (substitute σ t))
      (same_of (substitute_composed (replacing X w) σ t))

  put_into_asked : (l : List Asked)
      → Each AlikeDemands (map (λ d. (d.0, substitute (replacing X u) d.1)) (put_asked σ l)) (put_asked (composed (replacing X w) σ) l)
  put_into_asked [] = tt
  put_into_asked (d ∷ l) = ((refl, put_same d.1), put_into_asked l)

  put_into_equations : (nodes : List Node) (es : List Equation)
      → Each AlikeEquations (map (λ q. (substitute (replacing X u) q.0, substitute (replacing X u) q.1)) (put_equations nodes σ es))
      (put_equations nodes (composed (replacing X w) σ) es)
  put_into_equations nodes [] = tt
  put_into_equations nodes (f ∷ es) = ((put_same (side_tree nodes f.left), put_same (side_tree nodes f.right)), put_into_equations nodes es)

-- ---- one transformation

pub record Transforms (g : Ground) (P P' : Solutions.TreeProblem) (σ σ' : Substitution) : Type 0 where
  pub before : Solutions.TreeProblem
  pub label : Label
  pub after : Solutions.TreeProblem
  pub alike_before : AlikeProblems P before
  pub transformation : First (Protected g) before label after
  pub alike_after : AlikeProblems after P'
  pub composes : AlikeSubstitutions (composed (substitution_of label) σ) σ'

module _ (g : Ground) (asked : List Asked) (e : Equation) (es : List Equation) (bs : List Binding) (ds : List Demand) {s t : Tree}
    (l : Same (meant_tree g bs e.left) s) (r : Same (meant_tree g bs e.right) t) where
  abbrev resolved_problem : Solutions.TreeProblem
  resolved_problem = record {
    demands = put_asked (meaning g.nodes bs) (asked ++ asked_raised g.nodes ds);
    equations = (s, t) ∷ put_equations g.nodes (meaning g.nodes bs) es;
  }

  alike_resolved : AlikeProblems (state_problem g asked (e ∷ es) bs ds) resolved_problem
  alike_resolved =
      record {
        demands = demands_reflexive resolved_problem.demands;
        equations = ((l, r), equations_reflexive (put_equations g.nodes (meaning g.nodes bs) es));
      }

  simulated : {qs : List (Side × Side)} {b : List (ℕ × Side)} {d : List (ℕ × Subject)} → Simulates g bs s t qs b d
      → Transforms g (state_problem g asked (e ∷ es) bs ds)
      (state_problem g asked (pending e.number qs ++ es) (bs ++ bindings e.number b) (ds ++ demands e.number d))
      (meaning g.nodes bs) (meaning g.nodes (bs ++ bindings e.number b))
  simulated (simplifies {E = E} {D = D} {qs = qs} {d = d} x i j) =
      let σ : Substitution = meaning g.nodes bs in
      let rest : List Solutions.TreeEquation = put_equations g.nodes σ es in
      let D₀ : List Solutions.TreeDemand = put_asked σ (asked ++ asked_raised g.nodes ds) in
      rw (append-nil bs)
      (record {
        before = resolved_problem;
        label = ε;
        after = record { demands = D₀ ++ D; equations = E ++ rest };
        alike_before = alike_resolved;
        transformation = first [] rest D₀ x;
        alike_after = record {
          demands = rw (put_raised g.nodes σ asked ds e.number d) (each_append AlikeDemands D₀ D₀ D (meant_demands g bs d) (demands_reflexive D₀) j);
          equations =
              rw (put_pending g.nodes σ e.number qs es) (each_append AlikeEquations E (meant_equations g bs qs) rest rest i (equations_reflexive rest));
        };
        composes = λ Y. same_of (substitute_variable (σ Y));
      })
  simulated (binds {X = X} {u = u} {v = v} x i) =
      let σ : Substitution = meaning g.nodes bs in
      let rest : List Solutions.TreeEquation = put_equations g.nodes σ es in
      let D₀ : List Solutions.TreeDemand = put_asked σ (asked ++ asked_raised g.nodes ds) in
      rw (append-nil ds, meaning_more g.nodes bs (record { variable = X; value = v; equation = e.number }))
      (record {
        before = resolved_problem;
        label = X := u;
        after = record {
          demands = map (λ d. (d.0, substitute (replacing X u) d.1)) (D₀ ++ []);
          equations = map (λ q. (substitute (replacing X u) q.0, substitute (replacing X u) q.1)) rest;
        };
        alike_before = alike_resolved;
        transformation = first [] rest D₀ x;
        alike_after = record {
          demands = rw (append-nil D₀) (put_into_asked σ X i (asked ++ asked_raised g.nodes ds));
          equations = put_into_equations σ X i g.nodes es;
        };
        composes = λ Y. same_substitutions (replacing X u) (replacing X (meant_tree g bs v)) (same_replacing X i) (σ Y);
      })

pub transforms : (g : Ground) (variables : ℕ) (named : (n : ℕ) → Named g.atoms variables n (form_at g.nodes n)) (asked : List Asked) (e : Equation)
    (es : List Equation) (bs : List Binding)
    (ds : List Demand) (qs : List (Side × Side)) (b : List (ℕ × Side)) (d : List (ℕ × Subject))
    → State g variables named (e ∷ es) bs ds → step g bs e.left e.right ≡ goes_on qs b d
    → Transforms g (state_problem g asked (e ∷ es) bs ds)
    (state_problem g asked (pending e.number qs ++ es) (bs ++ bindings e.number b) (ds ++ demands e.number d))
    (meaning g.nodes bs) (meaning g.nodes (bs ++ bindings e.number b))
transforms g variables named asked e es bs ds qs b d s q =
    let k : Stepped g bs e.left e.right (goes_on qs b d) =
    rw q at (step_as g variables named s.meant e.left e.right s.waiting.0.0 s.waiting.0.1) in
    simulated g asked e es bs ds k.same_left k.same_right k.done_as
