-- From what is read inside a bracket to what a call ensures.
-- The function value reads what is wanted; each call unwraps its tree and has it from the laws of the grammar.
use Rattle.std.specs.Prelude.{◌≡◌, ◌≢◌, ℕ, suc, ◌+◌, ◌-◌, ◌≤◌, Bool, List, ◌++◌, length, drop, Result, Ok, Err, refl}
use Rattle.std.proofs.Common.{ap, sym, ◌∙◌, arith, take, length-append, length-drop}
use Rattle.std.proofs.lemmas.List.{take-append-drop}
use Rattle.std.proofs.Math.Seq.{take-length}
use Rattle.c_tree.specs.declared.token.Pos.{Pos}
use Rattle.c_tree.specs.declared.expression.Expr.{Expr}
use Rattle.c_tree.specs.declared.specifier.Specifier.{Specifier}
use Rattle.c_tree.specs.declared.declarator.Declarator.{Declarator}
use Rattle.c_tree.specs.Levelled.{nesting_limit}
use Rattle.c_tree.specs.Levels.Names.{Names}
use Rattle.c_tree.specs.Levels.Productions.{conditional, assignment, comma}
use Rattle.c_grammar.specs.Input.{Tokens, State, Outcome, Parser, Reason, Syntax, Nest, and_then, pure}
use Rattle.c_grammar.specs.Fronts.{Trees, OkAtFront, DeclaresNoTypedefs, Found as FrontFound}
use Rattle.c_grammar.specs.Productions as trees
use Rattle.c_grammar.specs.Read.Depth as grammar
use Rattle.c_grammar.specs.Laws.Form.{ok_pair}
use Rattle.c_grammar.specs.Laws.Productions.{commas_at_front, assignments_at_front, conditionals_at_front, specifiers_at_front, declarators_at_front}
use Rattle.c_expr_parser.specs.declared.fault.ParseFault.{ParseFault}
use Rattle.c_expr_parser.specs.declared.fault.ParseFault.TheVariants as fault
use Rattle.c_expr_parser.specs.declared.fault.Stop.{Stop}
use Rattle.c_expr_parser.specs.declared.fault.Stop.TheVariants as stop
use Rattle.c_expr_parser.specs.declared.wanted.Wanted.{Wanted}
use Rattle.c_expr_parser.specs.declared.wanted.Wanted.TheVariants as wanted
use Rattle.c_expr_parser.specs.declared.wanted.Within.{Within}
use Rattle.c_expr_parser.specs.declared.wanted.Within.TheVariants as within
use Rattle.c_expr_parser.specs.declared.wanted.Use.{Use}
use Rattle.c_expr_parser.specs.declared.wanted.Found.{Found}
use Rattle.c_expr_parser.specs.declared.wanted.Found.TheVariants as found
use Rattle.c_expr_parser.specs.Numbers.{within_number, use_of}
use Rattle.c_expr_parser.specs.Wanted.{read}
use Rattle.c_expr_parser.specs.Reads.{Reads, Keeps, next_place}
use Rattle.c_expr_parser.specs.Calls as call

-- ---- by what is wanted

abbrev read_of : {A : Type 0} → A → State → Outcome A
read_of a i = Ok (a, i)

abbrev given : {A : Type 0} → A → ℕ → Result (A × ℕ) ParseFault
given a behind = Ok (a, behind)

abbrev given_up : {A : Type 0} → ParseFault → Result (A × ℕ) ParseFault
given_up e = Err e

pub record Unwrapped {A : Type 0} (wrap : A → Found) (r : Outcome A) (x : Found) (j : State) : Type 0 where
  pub tree : A
  pub is : x ≡ wrap tree
  pub reads : r ≡ Ok (tree, j)

pub unwrapped : {A : Type 0} (wrap : A → Found) (r : Outcome A) (x : Found) (j : State) → and_then r (λ a. pure (wrap a)) ≡ Ok (x, j) → Unwrapped wrap r x j
unwrapped {A} wrap (Ok p) x j e =
    let w = ok_pair {A = Found} (wrap p.0) x p.1 j e in
    record { tree = p.0; is = sym w.0; reads = ap (λ (s : State). read_of p.0 s) w.1 }
unwrapped wrap (Err f) x j e = absurd cc

refusal : {A : Type 0} (wrap : A → Found) (r : Outcome A) (f : Reason × Tokens) → and_then r (λ a. pure (wrap a)) ≡ Err f → r ≡ Err f
refusal wrap (Ok p) f e = absurd cc
refusal wrap (Err g) f e = cc

pub wrapped_expression : (more : ℕ) (w : Within) (i : State) → read (grammar.inside (suc more)) (wanted.Expression w) i ≡ and_then (grammar.expression more (within_number w) i) (λ a. pure (found.Expression a))
unfolding grammar.expression
wrapped_expression more w i = refl

pub wrapped_specifiers : (more : ℕ) (with_storage : Bool) (i : State) → read (grammar.inside (suc more)) (wanted.Specifiers with_storage) i ≡ and_then (grammar.specifiers more with_storage i) (λ a. pure (found.Specifiers a))
unfolding grammar.specifiers
wrapped_specifiers more with_storage i = refl

pub wrapped_declarator : (more : ℕ) (u : Use) (typed : Bool) (i : State) → read (grammar.inside (suc more)) (wanted.Declarator u typed) i ≡ and_then (grammar.declarator more (use_of u) typed i) (λ a. pure (found.Declarator a))
unfolding grammar.declarator
wrapped_declarator more u typed i = refl

-- what is read inside is read by the production
module _ {A : Type 0} (wrap : A → Found) (wide : Parser Found) (parser : Parser A) (same : (i : State) → wide i ≡ and_then (parser i) (λ a. pure (wrap a))) (old new : Names) (tokens : Tokens) (at : ℕ) where
  pub tree_of : (behind : ℕ) (x : Found) (g : call.Gave wide old new tokens at behind x) → Unwrapped wrap (parser (old, drop at tokens)) x (new, g.rest)
  tree_of behind x g = unwrapped wrap (parser (old, drop at tokens)) x (new, g.rest) (sym (same (old, drop at tokens)) ∙ g.reads)

  pub gave : ((a b : A) → wrap a ≡ wrap b → a ≡ b) → (behind : ℕ) (a : A) → call.Gave wide old new tokens at behind (wrap a) → call.Gave parser old new tokens at behind a
  gave inj behind a g =
      let u = tree_of behind (wrap a) g in
      record { rest = g.rest; reads = u.reads ∙ ap (λ (t : A). read_of t (new, g.rest)) (sym (inj a u.tree u.is)); place = g.place }

  pub stopped : (end : Pos) (e : ParseFault) → call.Stopped wide old new tokens at end e → call.Stopped parser old new tokens at end e
  stopped end e s = record {
    kept = s.kept;
    stops = λ not_memory. let t = s.stops not_memory in
        record { reason = t.reason; left = t.left; stops = refusal wrap (parser (old, drop at tokens)) (t.reason, t.left) (sym (same (old, drop at tokens)) ∙ t.stops); is = t.is };
  }

pub same_expressions : (a b : Expr) → found.Expression a ≡ found.Expression b → a ≡ b
same_expressions a b e = cc

pub same_specifiers : (a b : List Specifier) → found.Specifiers a ≡ found.Specifiers b → a ≡ b
same_specifiers a b e = cc

pub same_declarators : (a b : Declarator) → found.Declarator a ≡ found.Declarator b → a ≡ b
same_declarators a b e = cc

-- ---- no more tokens are left than there were

fewer : {A : Type 0} (t : Trees A) (more : ℕ) (names : Names) (tokens : Tokens) (a : A) (behind : State) → FrontFound t more names tokens a behind → length behind.1 ≤ length tokens
fewer t more names tokens a behind f = omega (arith, ap length f.front.whole, length-append (t.spelling a) behind.1)

pub no_more_left : (more : ℕ) (w : Wanted) (names new : Names) (tokens rest : Tokens) (x : Found) → read (grammar.inside (suc more)) w (names, tokens) ≡ Ok (x, (new, rest)) → length rest ≤ length tokens
no_more_left more (wanted.Expression within.Comma) names new tokens rest x e =
    let u = unwrapped found.Expression (grammar.expression more comma (names, tokens)) x (new, rest) (sym (wrapped_expression more within.Comma (names, tokens)) ∙ e) in
    fewer (trees.expressions comma) more names tokens u.tree (new, rest) ((commas_at_front more).found names tokens u.tree (new, rest) u.reads)
no_more_left more (wanted.Expression within.Assignment) names new tokens rest x e =
    let u = unwrapped found.Expression (grammar.expression more assignment (names, tokens)) x (new, rest) (sym (wrapped_expression more within.Assignment (names, tokens)) ∙ e) in
    fewer (trees.expressions assignment) more names tokens u.tree (new, rest) ((assignments_at_front more).found names tokens u.tree (new, rest) u.reads)
no_more_left more (wanted.Expression within.Conditional) names new tokens rest x e =
    let u = unwrapped found.Expression (grammar.expression more conditional (names, tokens)) x (new, rest) (sym (wrapped_expression more within.Conditional (names, tokens)) ∙ e) in
    fewer (trees.expressions conditional) more names tokens u.tree (new, rest) ((conditionals_at_front more).found names tokens u.tree (new, rest) u.reads)
no_more_left more (wanted.Specifiers w) names new tokens rest x e =
    let u = unwrapped found.Specifiers (grammar.specifiers more w (names, tokens)) x (new, rest) (sym (wrapped_specifiers more w (names, tokens)) ∙ e) in
    fewer (trees.specifier_lists w) more names tokens u.tree (new, rest) ((specifiers_at_front w more).found names tokens u.tree (new, rest) u.reads)
no_more_left more (wanted.Declarator u typed) names new tokens rest x e =
    let v = unwrapped found.Declarator (grammar.declarator more (use_of u) typed (names, tokens)) x (new, rest) (sym (wrapped_declarator more u typed (names, tokens)) ∙ e) in
    fewer (trees.declarators (use_of u) typed) more names tokens v.tree (new, rest) ((declarators_at_front (use_of u) typed more).found names tokens v.tree (new, rest) v.reads)

-- ---- what the cursor reads, from a place of the tokens on

-- the old names are a front of the new ones, where each mark stays good
goes_on : (old new : Names) (i j : State) → i.0 ≡ old → new ≡ j.0 → Keeps i j → call.GoesOn old new
goes_on old new i j from to keeps =
    let m = keeps (length i.0) i.0 (record { made = refl; kept = take-length i.0 }) in
    let e : take (length i.0) j.0 ++ drop (length i.0) j.0 ≡ j.0 = take-append-drop (length i.0) j.0 in
    (drop (length i.0) j.0, to ∙ sym e ∙ ap (λ (l : Names). l ++ drop (length i.0) j.0) (m.kept ∙ from))

module _ (depth : ℕ) (w : Wanted) (old new : Names) (tokens : Tokens) (at : ℕ) (i j : State) (from : i ≡ (old, drop at tokens)) (to : new ≡ j.0) where
  pub left_there : (x : Found) → read (grammar.inside (suc (nesting_limit - depth))) w i ≡ Ok (x, j) → length j.1 ≤ length (drop at tokens)
  left_there x e = no_more_left (nesting_limit - depth) w old j.0 (drop at tokens) j.1 x (ap (λ (k : State). read (grammar.inside (suc (nesting_limit - depth))) w k) (sym from) ∙ e)

  pub gave_there : (x : Found) (behind : ℕ) → read (grammar.inside (suc (nesting_limit - depth))) w i ≡ Ok (x, j) → behind + length j.1 ≡ length tokens
      → call.Gave (read (grammar.inside (suc (nesting_limit - depth))) w) old new tokens at behind x
  gave_there x behind e p = record {
    rest = j.1;
    reads = ap (λ (k : State). read (grammar.inside (suc (nesting_limit - depth))) w k) (sym from) ∙ e ∙ ap (λ (n : Names). read_of x (n, j.1)) (sym to);
    place = p;
  }

  stops_there : (s : Stop) (end : Pos) (e : ParseFault) → Reads (read (grammar.inside (suc (nesting_limit - depth))) w i) (Err s) j → e ≡ call.fault_of s (call.place_or (next_place j.1) end) → e ≢ fault.Memory
      → call.StopsWith (read (grammar.inside (suc (nesting_limit - depth))) w) old (drop at tokens) end e
  stops_there stop.Syntax end e r is n = record { reason = Syntax; left = j.1; stops = ap (λ (k : State). read (grammar.inside (suc (nesting_limit - depth))) w k) (sym from) ∙ r (λ m. cc); is = is }
  stops_there stop.Nest end e r is n = record { reason = Nest; left = j.1; stops = ap (λ (k : State). read (grammar.inside (suc (nesting_limit - depth))) w k) (sym from) ∙ r (λ m. cc); is = is }
  stops_there stop.Memory end e r is n = absurd (n is)

  pub stopped_there : (s : Stop) (end : Pos) (e : ParseFault) → Reads (read (grammar.inside (suc (nesting_limit - depth))) w i) (Err s) j → Keeps i j → e ≡ call.fault_of s (call.place_or (next_place j.1) end)
      → call.Stopped (read (grammar.inside (suc (nesting_limit - depth))) w) old new tokens at end e
  stopped_there s end e r keeps is = record { kept = goes_on old new i j (ap (λ (k : State). k.0) from) to keeps; stops = stops_there s end e r is }

-- ---- the clauses of a call

module _ {A : Type 0} (t : Trees A) (reads : ℕ → Parser A) (at_front : (more : ℕ) → OkAtFront t more (reads more)) (old new : Names) (tokens : Tokens) (at depth : ℕ) (end : Pos) (fits : at ≤ length tokens) (small : depth ≤ nesting_limit) where
  there : (behind : ℕ) (a : A) (g : call.Gave (reads (nesting_limit - depth)) old new tokens at behind a) → FrontFound t (nesting_limit - depth) old (drop at tokens) a (new, g.rest)
  there behind a g = (at_front (nesting_limit - depth)).found old (drop at tokens) a (new, g.rest) g.reads

  is_read : (behind : ℕ) (a : A) → call.Gave (reads (nesting_limit - depth)) old new tokens at behind a → call.IsRead t old (drop at tokens) depth a
  is_read behind a g = let f = there behind a g in let n : t.nesting a ≤ nesting_limit - depth = f.nested in record { levelled = f.levelled; nested = omega arith; rest = g.rest; front = f.front }

  place : (behind : ℕ) (a : A) → call.Gave (reads (nesting_limit - depth)) old new tokens at behind a → behind ≡ at + length (t.spelling a)
  place behind a g = let f = there behind a g in let p : behind + length g.rest ≡ length tokens = g.place in omega (arith, ap length f.front.whole, length-append (t.spelling a) g.rest, length-drop at tokens)

  pub is_found : (r : Result (A × ℕ) ParseFault) → call.Gives (reads (nesting_limit - depth)) old new tokens at end r → call.Found t old (drop at tokens) depth r
  is_found (Ok p) g = is_read p.1 p.0 g
  is_found (Err e) g = tt

  pub is_behind : (r : Result (A × ℕ) ParseFault) → call.Gives (reads (nesting_limit - depth)) old new tokens at end r → call.Behind t at r
  is_behind (Ok p) g = place p.1 p.0 g
  is_behind (Err e) g = tt

  pub comes : (r : Result (A × ℕ) ParseFault) → call.Gives (reads (nesting_limit - depth)) old new tokens at end r → call.Comes t old (drop at tokens) depth at r
  comes (Ok p) g a is _ =
      let n : depth + t.nesting a ≤ nesting_limit = is.nested in
      let w = ok_pair {A = A} p.0 a (new, g.rest) (old ++ t.declares old a, is.rest) (sym g.reads ∙ (at_front (nesting_limit - depth)).comes old (drop at tokens) is.rest a is.levelled (omega arith) is.front) in
      ap (λ (m : ℕ). given p.0 m) (place p.1 p.0 g) ∙ ap (λ (x : A). given x (at + length (t.spelling x))) w.0
  comes (Err e) g a is not_memory =
      let n : depth + t.nesting a ≤ nesting_limit = is.nested in
      let s = g.stops (λ m. not_memory (ap (λ (x : ParseFault). given_up {A = A} x) m)) in
      let there = (at_front (nesting_limit - depth)).comes old (drop at tokens) is.rest a is.levelled (omega arith) is.front in
      absurd (cc (s.stops, there))

  pub is_declared : (r : Result (A × ℕ) ParseFault) → call.Gives (reads (nesting_limit - depth)) old new tokens at end r → call.Declared t old new r
  is_declared (Ok p) g = (there p.1 p.0 g).names_are
  is_declared (Err e) g = tt

  pub no_typedef : DeclaresNoTypedefs t → (r : Result (A × ℕ) ParseFault) → call.NoTypedef t old r
  no_typedef plain (Ok p) = plain p.0 old
  no_typedef plain (Err e) = tt

pub is_kept : {A : Type 0} (parser : Parser A) (old new : Names) (tokens : Tokens) (at : ℕ) (end : Pos) (r : Result (A × ℕ) ParseFault) → call.Gives parser old new tokens at end r → call.Kept old new r
is_kept parser old new tokens at end (Ok p) g = tt
is_kept parser old new tokens at end (Err e) g = g.kept

pub is_refused : {A : Type 0} (parser : Parser A) (old new : Names) (tokens : Tokens) (at : ℕ) (end : Pos) (r : Result (A × ℕ) ParseFault) → call.Gives parser old new tokens at end r → call.Refused parser old (drop at tokens) end r
is_refused parser old new tokens at end (Ok p) g = tt
is_refused parser old new tokens at end (Err e) g = g.stops

-- all that a call ensures
pub clauses : {A : Type 0} (t : Trees A) (reads : ℕ → Parser A) → ((more : ℕ) → OkAtFront t more (reads more)) → DeclaresNoTypedefs t → (old new : Names) (tokens : Tokens) (at depth : ℕ) (end : Pos) → at ≤ length tokens → depth ≤ nesting_limit
    → (r : Result (A × ℕ) ParseFault) → call.Gives (reads (nesting_limit - depth)) old new tokens at end r → call.Answers t (reads (nesting_limit - depth)) old new tokens at depth end r
clauses t reads at_front plain old new tokens at depth end fits small r g = record {
  found = is_found t reads at_front old new tokens at depth end fits small r g;
  behind = is_behind t reads at_front old new tokens at depth end fits small r g;
  comes = comes t reads at_front old new tokens at depth end fits small r g;
  declared = is_declared t reads at_front old new tokens at depth end fits small r g;
  plain = no_typedef t reads at_front old new tokens at depth end fits small plain r;
  kept = is_kept (reads (nesting_limit - depth)) old new tokens at end r g;
  refused = is_refused (reads (nesting_limit - depth)) old new tokens at end r g;
}
