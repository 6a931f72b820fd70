-- A closed audit of an image with nearly every kind of record, and edits of these by which each clause is false. The text was
-- assembled by hand.
use Rattle.std.specs.Prelude.{◌≡◌, ℕ, ◌-◌, ◌^◌, pos, negsuc, true, List, [], ◌∷◌, Option, Some, None}
use Rattle.word_ops.specs.declared.operation.Op.TheVariants as op
use Rattle.word_ops.specs.declared.operation.Width.TheVariants as width
use Rattle.term_form.specs.declared.term.Term.{Term}
use Rattle.term_form.specs.declared.facts.Facts.{Facts}
use Rattle.term_form.specs.Narrower.{any_word, only_word}
use Rattle.term_form.specs.declared.listing.Record.{Record}
use Rattle.term_form.specs.declared.listing.Record.TheVariants as records
use Rattle.term_form.specs.declared.listing.TermKind.{TermKind}
use Rattle.term_form.specs.declared.listing.TermKind.TheVariants as kinds
use Rattle.term_form.specs.declared.listing.Mode.{Mode}
use Rattle.term_form.specs.declared.listing.Mode.TheVariants as modes
use Rattle.term_form.specs.declared.listing.StoreWidth.TheVariants as stores
use Rattle.term_form.specs.declared.listing.Effect.{Effect}
use Rattle.term_form.specs.declared.listing.Effect.TheVariants as effects
use Rattle.term_form.specs.declared.listing.EndKind.{EndKind}
use Rattle.term_form.specs.declared.listing.EndKind.TheVariants as ends
use Rattle.rv_machine.specs.declared.answer.End.TheVariants as ended
use Rattle.audited_machine.specs.Account.{OfPatterns, OfStores, OfPhis, OfCalls, OfOutside, OfEdges, OfInstructions, OfFacts}
use Rattle.audited_machine.specs.Audit.{Verdict, Holds, Fails, audit}

abbrev pub t : ℕ → Term
t n = record { 0 = n }

-- what the records of the example say; the examples change one of these each
pub record Told : Type 0 where
  -- the second operand of the operation les
  pub operand : ℕ
  -- the value that is stored
  pub stored : ℕ
  -- the argument of the phi on the edge that leads back
  pub argument : ℕ
  -- the term that is passed to the function
  pub passed : ℕ
  -- the term that is put out
  pub put : ℕ
  -- the targets of the branch
  pub first : ℕ
  pub second : ℕ
  -- the address of the get
  pub get : ℕ
  -- the most that the phi is
  pub most : ℕ

abbrev pub facts_up_to : ℕ → Facts
facts_up_to n = record any_word { low = pos 0; high = pos n; most = n }

abbrev pub function : (number entry frame parameters : ℕ) → Record
function n e f p = records.Function (record { number = n; entry = e; frame = f; parameters = p; value = true })

abbrev pub block : (number function : ℕ) → Option ℕ → ℕ → Record
block n f p a = records.Block (record { number = n; function = f; parent = p; address = a })

abbrev pub term : ℕ → Option ℕ → TermKind → Mode → (a b address place : ℕ) → Facts → Record
term n k kind' mode' a' b' at p f = records.Term (record { term = t n; block = k; kind = kind'; mode = mode'; a = a'; b = b'; address = at; place = p; facts = f })

abbrev pub effect : (block address : ℕ) → Effect → Record
effect k at e = records.Effect (record { block = k; address = at; effect = e })

abbrev pub ending : ℕ → EndKind → Option Term → (first second : Option ℕ) → ℕ → Record
ending k e x f s at = records.End (record { block = k; kind = e; term = x; first = f; second = s; address = at })

abbrev pub edge : (from to phi argument : ℕ) → Record
edge f b p a = records.Edge (record { from = f; to = b; phi = t p; argument = t a })

abbrev pub none : ℕ
none = 2 ^ 32 - 1

-- int f(int a) { return a + (a <= a); }
-- int main(void) { int x = 3; getchar(); int i = f(x); while (putchar(i), i) i--; return i; }
abbrev pub text : List ℕ
text =
    -- the start, at 0x10000: the stack ends at 0x10100, one call may be nested, main is called, and its value is the status
    0x00010137 ∷ 0x10010113 ∷ 0x00100193 ∷ 0x00c000ef ∷ 0x00300893 ∷ 0x00000073
    -- main, at 0x10018: addi x2, x2, -32; sw x1, 12(x2)
    ∷ 0xfe010113 ∷ 0x00112623
    -- block 0, at 0x10020: li x5, 3; sw x5, 16(x2); lw x8, 16(x2)
    ∷ 0x00300293 ∷ 0x00512823 ∷ 0x01012403
    -- a byte is taken: li x17, 1; ecall; mv x9, x10
    ∷ 0x00100893 ∷ 0x00000073 ∷ 0x00050493
    -- the call of function 1, at 0x10038: sw x8, 0(x2); bnez x3, over the jump to 0x100b8; addi x3, x3, -1; jal x1, 0x10090
    ∷ 0x00812023 ∷ 0x00019463 ∷ 0x0780006f ∷ 0xfff18193 ∷ 0x048000ef
    -- addi x3, x3, 1; mv x11, x10; mv x12, x11; j 0x1005c
    ∷ 0x00118193 ∷ 0x00050593 ∷ 0x00058613 ∷ 0x0040006f
    -- block 1, at 0x1005c: mv x10, x12; li x17, 2; ecall; seqz x13, x12; bnez x13, 0x10080; j 0x10074
    ∷ 0x00060513 ∷ 0x00200893 ∷ 0x00000073 ∷ 0x00163693 ∷ 0x00069a63 ∷ 0x0040006f
    -- block 2, at 0x10074: addi x14, x12, -1; mv x12, x14; j 0x1005c
    ∷ 0xfff60713 ∷ 0x00070613 ∷ 0xfe1ff06f
    -- block 3, at 0x10080: mv x10, x12; lw x1, 12(x2); addi x2, x2, 32; ret
    ∷ 0x00060513 ∷ 0x00c12083 ∷ 0x02010113 ∷ 0x00008067
    -- function 1, at 0x10090: addi x2, x2, -16; sw x1, 12(x2)
    ∷ 0xff010113 ∷ 0x00112623
    -- its block 0: lw x8, 16(x2); slt x30, x8, x8; xori x9, x30, 1; add x13, x8, x9
    ∷ 0x01012403 ∷ 0x00842f33 ∷ 0x001f4493 ∷ 0x009406b3
    -- mv x10, x13; lw x1, 12(x2); addi x2, x2, 16; ret
    ∷ 0x00068513 ∷ 0x00c12083 ∷ 0x01010113 ∷ 0x00008067
    -- the end of runs that nest too deep, at 0x100b8: li x17, 4; ecall
    ∷ 0x00400893 ∷ 0x00000073
    ∷ []

abbrev pub records_of : Told → List Record
records_of k =
    function 0 0x10018 32 0
    ∷ term 0 None kinds.Konst modes.Ready 3 none 0 0 (only_word 3)
    ∷ term 1 None kinds.Local modes.Ready 16 none 0 0 any_word
    ∷ term 2 None kinds.Konst modes.Ready 0 none 0 0 (only_word 0)
    ∷ term 9 None kinds.Konst modes.Ready 1 none 0 0 (only_word 1)
    ∷ block 0 0 None 0x10020
    ∷ effect 0 0x10024 (effects.Store stores.Word (t 1) (t k.stored))
    ∷ term 3 (Some 0) (kinds.Load width.Word) modes.After 1 none 0x10028 8 any_word
    ∷ effect 0 k.get (effects.Get (t 10))
    ∷ term 10 (Some 0) kinds.Got modes.At none none 0x10038 9 (record any_word { low = negsuc 0; high = pos 255 })
    ∷ effect 0 0x10048 (effects.Call 1 1 (Some (t 4)))
    ∷ records.Argument (record { position = 0; term = t k.passed })
    ∷ term 4 (Some 0) kinds.Called modes.At none none 0x10054 11 any_word
    ∷ ending 0 ends.Jump None (Some 1) None 0x10058
    ∷ edge 0 1 5 4
    ∷ block 1 0 (Some 0) 0x1005c
    ∷ term 5 (Some 1) kinds.Phi modes.At none none 0x1005c 12 (facts_up_to k.most)
    ∷ effect 1 0x10064 (effects.Put (t k.put))
    ∷ term 6 (Some 1) (kinds.Operate op.Eq) modes.After 5 2 0x10068 13 (facts_up_to 1)
    ∷ ending 1 ends.Branch (Some (t 6)) (Some k.first) (Some k.second) 0x10070
    ∷ block 2 0 (Some 1) 0x10074
    ∷ term 7 (Some 2) (kinds.Operate op.Subs) modes.After 5 9 0x10074 14 (facts_up_to 3)
    ∷ ending 2 ends.Jump None (Some 1) None 0x1007c
    ∷ edge 2 1 5 k.argument
    ∷ block 3 0 (Some 1) 0x10080
    ∷ ending 3 ends.Return (Some (t 5)) None None 0x1008c
    ∷ function 1 0x10090 16 1
    ∷ block 0 1 None 0x10098
    ∷ term 0 (Some 0) kinds.Param modes.At 0 none 0x1009c 8 any_word
    ∷ term 1 (Some 0) (kinds.Operate op.Les) modes.After 0 k.operand 0x1009c 9 (facts_up_to 1)
    ∷ term 2 (Some 0) (kinds.Operate op.Adds) modes.After 0 1 0x100a4 13 any_word
    ∷ ending 0 ends.Return (Some (t 2)) None None 0x100b4 ∷ []

abbrev pub right : Told
right = record { operand = 0; stored = 0; argument = 7; passed = 3; put = 5; first = 3; second = 2; get = 0x10030; most = 4 }

-- the audit on the input of one byte
abbrev pub verdict : Told → Verdict
verdict k = audit (record { text = text; statics = []; stack = 64; entry = 0x10000; listing = record { records = records_of k } }) (7 ∷ []) 200

-- 4, 3, 2, 1 and 0 are put out, and the status is 0
abbrev pub AllTrue : Type 0
AllTrue = verdict right ≡ Holds (ended.Exit 0) 77

-- an operand without a word
abbrev pub WrongOperand : Type 0
WrongOperand = verdict (record right { operand = 5 }) ≡ Fails 19 OfPatterns

-- a store of another value
abbrev pub WrongStore : Type 0
WrongStore = verdict (record right { stored = 2 }) ≡ Fails 7 OfStores

-- the argument of the entry on the edge that leads back
abbrev pub WrongArgument : Type 0
WrongArgument = verdict (record right { argument = 4 }) ≡ Fails 39 OfPhis

-- a call with another argument
abbrev pub WrongPassing : Type 0
WrongPassing = verdict (record right { passed = 2 }) ≡ Fails 15 OfCalls

-- a byte of a term without a word
abbrev pub WrongPut : Type 0
WrongPut = verdict (record right { put = 6 }) ≡ Fails 32 OfOutside

-- a byte that no record tells of
abbrev pub WrongGet : Type 0
WrongGet = verdict (record right { get = 0x10000 }) ≡ Fails 10 OfInstructions

-- a phi above its facts
abbrev pub WrongFacts : Type 0
WrongFacts = verdict (record right { most = 3 }) ≡ Fails 30 OfFacts

-- a branch with its targets exchanged
abbrev pub WrongBranch : Type 0
WrongBranch = verdict (record right { first = 2; second = 3 }) ≡ Fails 36 OfEdges
