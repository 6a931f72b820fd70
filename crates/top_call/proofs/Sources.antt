-- From runs of the machine to what a source comes to.
use Rattle.std.specs.Prelude.{◌*◌}
use Rattle.std.proofs.Common.{◌≡◌, ◌≤◌, ◌<◌, ◌+◌, ◌^◌, ◌%◌, ℕ, Bool, ◌⊎◌, inl, inr, List, length, Option, Some, refl, sym, ap, subst, ◌∙◌, arith}
use Rattle.ccai_io.specs.Outside.{Appends, AppendsPrefix, Rose}
use Rattle.first_form.specs.Form.{Form, IsOfFirstForm}
use Rattle.first_form.specs.Code.{image_of, text_of}
use Rattle.image_form.specs.declared.image.Image.{Image}
use Rattle.rv_machine.specs.declared.answer.End.{End}
use Rattle.rv_machine.specs.declared.answer.End.TheVariants as ended
use Rattle.rv_machine.specs.State.{Loaded, State}
use Rattle.rv_machine.specs.Start.{loaded, start}
use Rattle.rv_machine.specs.Run.{Run}
use Rattle.rv_machine.specs.After.{RunsAs}
use Rattle.top_call.specs.FirstForm.{bytes_of}
use Rattle.top_call.specs.Outcome.{Outcome, Own, Usage, Missing, ReadFault, WriteFault, NotYet, Room, BadImage, Trap, StepsSpent, TooDeep, OutOfMemory}
use Rattle.top_call.specs.Drive.{RunsForm, RunsMachine, RunsSource, Streams, outcome_of_end, world_of}
use Rattle.top_call.specs.Steps.{MayRun, RunsConstants}
use Rattle.top_call.proofs.FirstForms.{Finishes, program_runs}

abbrev streams_of : Option (List ℕ) → Option (List ℕ) → ℕ → ℕ → Streams
streams_of l h r w = record { left = l; held = h; read_faults = r; write_faults = w }

-- only the output changed, or its faults too
held_alone : (s t : Streams) → t.left ≡ s.left → t.read_faults ≡ s.read_faults → t.write_faults ≡ s.write_faults → t ≡ record s { held = t.held }
held_alone s t l r w = ap (λ (x : Option (List ℕ)). streams_of x t.held t.read_faults t.write_faults) l ∙ ap (λ (n : ℕ). streams_of s.left t.held n t.write_faults) r ∙ ap (λ (n : ℕ). streams_of s.left t.held s.read_faults n) w

held_and_faults : (s t : Streams) → t.left ≡ s.left → t.read_faults ≡ s.read_faults → t ≡ record s { held = t.held; write_faults = t.write_faults }
held_and_faults s t l r = ap (λ (x : Option (List ℕ)). streams_of x t.held t.read_faults t.write_faults) l ∙ ap (λ (n : ℕ). streams_of s.left t.held n t.write_faults) r

-- the end of the program, as what its source comes to
finished : (f : Form) (s t : Streams) (m n : State) (e : End) → Finishes f.puts f.status (world_of s m) e (world_of t n) → RunsForm f s (outcome_of_end e) t
finished f s t m n (ended.Exit x) h = (h.0, h.1, held_alone s t h.2 h.3 h.4)
finished f s t m n ended.WriteFault h = (h.0, h.3, h.4, held_and_faults s t h.1 h.2)
finished f s t m n ended.Deep h = h
finished f s t m n (ended.Trap pc) h = h
finished f s t m n ended.ReadFault h = h
finished f s t m n ended.Spent h = h

form_of_run : (f : Form) (s : Streams) (o : Outcome) (t : Streams) → 5 * length f.puts ≤ 2 ^ 24 → RunsMachine (image_of f.puts f.status) (length (text_of f.puts f.status)) s o t → RunsForm f s o t
form_of_run f s o t few run = subst (λ (x : Outcome). RunsForm f s x t) (sym run.outcome)
    (finished f s t (start (image_of f.puts f.status)) run.state run.end (program_runs f.puts f.status (world_of s (start (image_of f.puts f.status))) run.end (world_of t run.state) refl (omega arith) run.run))

constants_of_run : (puts : List ℕ) (status : ℕ) (s : Streams) (o : Outcome) (t : Streams) → 5 * length puts ≤ 2 ^ 24 → MayRun (image_of puts status) (length (text_of puts status)) s o t → RunsConstants puts status s o t
constants_of_run puts status s o t few (inl none) = inl none
constants_of_run puts status s o t few (inr run) = inr (λ f ep es.
    form_of_run f s o t (subst (λ (l : List ℕ). 5 * length l ≤ 2 ^ 24) (sym ep) few)
    (subst (λ (l : List ℕ). RunsMachine (image_of l f.status) (length (text_of l f.status)) s o t) (sym ep)
    (subst (λ (n : ℕ). RunsMachine (image_of puts n) (length (text_of puts n)) s o t) (sym es) run)))

-- the program of a source of the first form, run for as many steps as it has words
pub constants_run : (puts : List ℕ) (status : ℕ) (image : Image) (steps : ℕ) (s : Streams) (o : Outcome) (t : Streams) → image ≡ image_of puts status → steps ≡ length image.text → 5 * length puts ≤ 2 ^ 24 → MayRun image steps s o t → RunsConstants puts status s o t
constants_run puts status image steps s o t is count few run = constants_of_run puts status s o t few (subst (λ (i : Image). MayRun i (length i.text) s o t) is (subst (λ (n : ℕ). MayRun image n s o t) count run))

form_source : (bytes : List ℕ) (f : Form) (s : Streams) (o : Outcome) (t : Streams) → length bytes ≤ 2 ^ 24 → IsOfFirstForm bytes f → RunsForm f s o t → RunsSource bytes s o t
form_source bytes f s (Own x) t small is h = (small, (f, (is, h)))
form_source bytes f s WriteFault t small is h = (small, (f, (is, h)))
form_source bytes f s Usage t small is h = absurd h
form_source bytes f s (Missing name) t small is h = absurd h
form_source bytes f s ReadFault t small is h = absurd h
form_source bytes f s (NotYet line column) t small is h = absurd h
form_source bytes f s Room t small is h = absurd h
form_source bytes f s (BadImage offset) t small is h = absurd h
form_source bytes f s (Trap pc) t small is h = absurd h
form_source bytes f s StepsSpent t small is h = absurd h
form_source bytes f s TooDeep t small is h = absurd h
form_source bytes f s OutOfMemory t small is h = absurd h

-- a source of the first form that was run
pub source_runs : (bytes : List ℕ) (f : Form) (s : Streams) (o : Outcome) (t : Streams) → length bytes ≤ 2 ^ 24 → IsOfFirstForm bytes f → RunsConstants f.puts f.status s o t → RunsSource bytes s o t
source_runs bytes f s o t small is (inl none) = subst (λ (x : Outcome). RunsSource bytes s x t) (sym none.0) none.1
source_runs bytes f s o t small is (inr run) = form_source bytes f s o t small is (run f refl refl)

-- the machine of an image was loaded and run
pub machine_ran : (image : Image) (m : Loaded) (steps : ℕ) (s t : Streams) (e : End) (left : State) (o : Outcome) → m ≡ loaded image → o ≡ outcome_of_end e → Run m.text steps (world_of s m.state) e (world_of t left) → ((input : List ℕ) → s.left ≡ Some input → RunsAs m.text steps input (world_of s m.state) e (world_of t left)) → MayRun image steps s o t
machine_ran image m steps s t e left o is out run told = inr (record {
  end = e;
  state = left;
  outcome = out;
  run = subst (λ (n : Loaded). Run n.text steps (world_of s n.state) e (world_of t left)) is run;
  told = λ input h. subst (λ (n : Loaded). RunsAs n.text steps input (world_of s n.state) e (world_of t left)) is (told input h);
})
