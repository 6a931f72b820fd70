-- A token that goes on with a list begins a longer one: its last item is longer, or another stands at its end.
use Rattle.std.specs.Prelude.{◌≡◌, List, [], ◌∷◌, ◌++◌, map}
use Rattle.std.proofs.Common.{ap, sym, ◌∙◌, subst, append_assoc, append-nil}
use Rattle.c_tree.specs.declared.token.Token.{Token}
use Rattle.c_tree.specs.Spelling.Tokens.{joined}
use Rattle.c_tree.specs.Levels.Names.{Names}
use Rattle.c_grammar.specs.Input.{Tokens}
use Rattle.c_grammar.specs.Laws.Lists.{Items, all_good, all_added, last_of, left}

module _ {S X : Type 0} (I : Items S X) where
  -- a longer item, which goes on with the token
  pub record LongerItem (s : S) (names : Names) (x : X) (t : Token) : Type 0 where
    pub item : X
    pub good : I.good s names item
    pub tokens : Tokens
    pub spelt : I.spell item ≡ I.spell x ++ t ∷ tokens

  -- an item that begins with the token
  pub record NewItem (s : S) (names : Names) (t : Token) : Type 0 where
    pub item : X
    pub good : I.good s names item
    pub tokens : Tokens
    pub spelt : I.spell item ≡ t ∷ tokens

  pub record LongerList (s : S) (names : Names) (xs : List X) (t : Token) : Type 0 where
    pub head : X
    pub tail : List X
    pub good : all_good I s names (head ∷ tail)
    pub tokens : Tokens
    pub spelt : joined (map I.spell (head ∷ tail)) ≡ joined (map I.spell xs) ++ t ∷ tokens

  pub last_longer : (s : S) (names : Names) (x : X) (xs : List X) (t : Token) → all_good I s names (x ∷ xs) → ((s : S) (names : Names) → I.good s names (last_of I x xs) → LongerItem s names (last_of I x xs) t) → LongerList s names (x ∷ xs) t
  last_longer s names x [] t g f =
      let l = f s names g.0 in
      record { head = l.item; tail = []; good = (l.good, tt); tokens = l.tokens; spelt = append-nil (I.spell l.item) ∙ l.spelt ∙ ap (λ a. a ++ t ∷ l.tokens) (sym (append-nil (I.spell x))) }
  last_longer s names x (y ∷ ys) t g f =
      let r = last_longer (I.step s x) (names ++ I.adds names x) y ys t g.1 f in
      record {
        head = x;
        tail = r.head ∷ r.tail;
        good = (g.0, r.good);
        tokens = r.tokens;
        spelt = ap (λ l. I.spell x ++ l) r.spelt ∙ sym (append_assoc (I.spell x) (joined (map I.spell (y ∷ ys))) (t ∷ r.tokens));
      }

  pub another : (s : S) (names : Names) (xs : List X) (t : Token) → all_good I s names xs → NewItem (left I s xs) (names ++ all_added I names xs) t → LongerList s names xs t
  another s names [] t g n =
      record { head = n.item; tail = []; good = (subst (λ m. I.good s m n.item) (append-nil names) n.good, tt); tokens = n.tokens; spelt = append-nil (I.spell n.item) ∙ n.spelt }
  another s names (x ∷ xs) t g n =
      let names1 : Names = names ++ I.adds names x in
      let m : NewItem (left I (I.step s x) xs) (names1 ++ all_added I names1 xs) t =
      subst (λ l. NewItem (left I (I.step s x) xs) l t) (sym (append_assoc names (I.adds names x) (all_added I names1 xs))) n in
      let r = another (I.step s x) names1 xs t g.1 m in
      record {
        head = x;
        tail = r.head ∷ r.tail;
        good = (g.0, r.good);
        tokens = r.tokens;
        spelt = ap (λ l. I.spell x ++ l) r.spelt ∙ sym (append_assoc (I.spell x) (joined (map I.spell xs)) (t ∷ r.tokens));
      }
