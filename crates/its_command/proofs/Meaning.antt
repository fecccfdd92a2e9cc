-- Bytes are just the command that they decode to.
use Rattle.std.proofs.Common.{◌≡◌, ℕ, Bool, true, false, nat_eq, ◌||◌, if◌then◌else◌, List, refl}
use Rattle.std.proofs.lemmas.Bool.{eqb-true}
use Rattle.its_command.specs.Opcodes.{is_known}
use Rattle.its_command.specs.Commands.{decoded, IsCommand, opcode_of}
use Rattle.its_command.specs.declared.command.Command.{Command}
use Rattle.its_command.specs.declared.command.Command.TheVariants.{Movi, Int, Clear, Sync, Mapd, Mapc, Mapti, Mapi, Inv, Invall, Movall, Discard, Unknown}

left_false : (a b : Bool) → (a || b) ≡ false → a ≡ false
left_false true b e = e
left_false false b e = refl

right_false : (a b : Bool) → (a || b) ≡ false → b ≡ false
right_false true b e = absurd (cc)
right_false false b e = e

-- ---- the opcode that a test found

pub record IsNone (n : ℕ) : Type 0 where
  pub movi : nat_eq n 0x01 ≡ false
  pub int : nat_eq n 0x03 ≡ false
  pub clear : nat_eq n 0x04 ≡ false
  pub sync : nat_eq n 0x05 ≡ false
  pub mapd : nat_eq n 0x08 ≡ false
  pub mapc : nat_eq n 0x09 ≡ false
  pub mapti : nat_eq n 0x0A ≡ false
  pub mapi : nat_eq n 0x0B ≡ false
  pub inv : nat_eq n 0x0C ≡ false
  pub invall : nat_eq n 0x0D ≡ false
  pub movall : nat_eq n 0x0E ≡ false
  pub discard : nat_eq n 0x0F ≡ false

none_of_known : (n : ℕ) → is_known n ≡ false → IsNone n
none_of_known n e =
    let t11 = left_false _ (nat_eq n 0x0F) e in
    let t10 = left_false _ (nat_eq n 0x0E) t11 in
    let t9 = left_false _ (nat_eq n 0x0D) t10 in
    let t8 = left_false _ (nat_eq n 0x0C) t9 in
    let t7 = left_false _ (nat_eq n 0x0B) t8 in
    let t6 = left_false _ (nat_eq n 0x0A) t7 in
    let t5 = left_false _ (nat_eq n 0x09) t6 in
    let t4 = left_false _ (nat_eq n 0x08) t5 in
    let t3 = left_false _ (nat_eq n 0x05) t4 in
    let t2 = left_false _ (nat_eq n 0x04) t3 in
    record {
      movi = left_false (nat_eq n 0x01) (nat_eq n 0x03) t2;
      int = right_false (nat_eq n 0x01) (nat_eq n 0x03) t2;
      clear = right_false _ (nat_eq n 0x04) t3;
      sync = right_false _ (nat_eq n 0x05) t4;
      mapd = right_false _ (nat_eq n 0x08) t5;
      mapc = right_false _ (nat_eq n 0x09) t6;
      mapti = right_false _ (nat_eq n 0x0A) t7;
      mapi = right_false _ (nat_eq n 0x0B) t8;
      inv = right_false _ (nat_eq n 0x0C) t9;
      invall = right_false _ (nat_eq n 0x0D) t10;
      movall = right_false _ (nat_eq n 0x0E) t11;
      discard = right_false _ (nat_eq n 0x0F) e;
    }

pub one_command : (b : List ℕ) (c : Command) → IsCommand b c → c ≡ decoded b
unfolding decoded
one_command b (Movi dev ev icid) h = rw (h.0, h.1, h.2, h.3) refl
one_command b (Int dev ev) h = rw (h.0, h.1, h.2) refl
one_command b (Clear dev ev) h = rw (h.0, h.1, h.2) refl
one_command b (Sync target) h = rw (h.0, h.1) refl
one_command b (Mapd dev bits itt valid) h = rw (h.0, h.1, h.2, h.3, h.4) refl
one_command b (Mapc icid target valid) h = rw (h.0, h.1, h.2, h.3) refl
one_command b (Mapti dev ev intid icid) h = rw (h.0, h.1, h.2, h.3, h.4) refl
one_command b (Mapi dev ev icid) h = rw (h.0, h.1, h.2, h.3) refl
one_command b (Inv dev ev) h = rw (h.0, h.1, h.2) refl
one_command b (Invall icid) h = rw (h.0, h.1) refl
one_command b (Movall from to) h = rw (h.0, h.1, h.2) refl
one_command b (Discard dev ev) h = rw (h.0, h.1, h.2) refl
one_command b (Unknown opcode) h =
    let no = none_of_known opcode h.1 in
    rw (h.0, no.movi, no.int, no.clear, no.sync, no.mapd, no.mapc, no.mapti, no.mapi, no.inv, no.invall, no.movall, no.discard) refl

-- by the two cases of a test
pick : {A : Type 0} (P : A → Type 0) (b : Bool) (x y : A) → (b ≡ true → P x) → (b ≡ false → P y) → P (if b then x else y)
pick P true x y f g = f refl
pick P false x y f g = g refl

unknown : (n : ℕ) → IsNone n → is_known n ≡ false
unknown n h = rw (h.movi, h.int, h.clear, h.sync, h.mapd, h.mapc, h.mapti, h.mapi, h.inv, h.invall, h.movall, h.discard) refl

pub is_decoded : (b : List ℕ) → IsCommand b (decoded b)
unfolding decoded
is_decoded b =
    let n = opcode_of b in
    let Is : Command → Type 0 = IsCommand b in
    pick Is (nat_eq n 0x01) _ _ (λ e. (eqb-true n 0x01 e, refl, refl, refl)) (λ movi.
    pick Is (nat_eq n 0x03) _ _ (λ e. (eqb-true n 0x03 e, refl, refl)) (λ int.
    pick Is (nat_eq n 0x04) _ _ (λ e. (eqb-true n 0x04 e, refl, refl)) (λ clear.
    pick Is (nat_eq n 0x05) _ _ (λ e. (eqb-true n 0x05 e, refl)) (λ sync.
    pick Is (nat_eq n 0x08) _ _ (λ e. (eqb-true n 0x08 e, refl, refl, refl, refl)) (λ mapd.
    pick Is (nat_eq n 0x09) _ _ (λ e. (eqb-true n 0x09 e, refl, refl, refl)) (λ mapc.
    pick Is (nat_eq n 0x0A) _ _ (λ e. (eqb-true n 0x0A e, refl, refl, refl, refl)) (λ mapti.
    pick Is (nat_eq n 0x0B) _ _ (λ e. (eqb-true n 0x0B e, refl, refl, refl)) (λ mapi.
    pick Is (nat_eq n 0x0C) _ _ (λ e. (eqb-true n 0x0C e, refl, refl)) (λ inv.
    pick Is (nat_eq n 0x0D) _ _ (λ e. (eqb-true n 0x0D e, refl)) (λ invall.
    pick Is (nat_eq n 0x0E) _ _ (λ e. (eqb-true n 0x0E e, refl, refl)) (λ movall.
    pick Is (nat_eq n 0x0F) _ _ (λ e. (eqb-true n 0x0F e, refl, refl)) (λ discard. (
      refl,
      unknown n (record {
        movi = movi;
        int = int;
        clear = clear;
        sync = sync;
        mapd = mapd;
        mapc = mapc;
        mapti = mapti;
        mapi = mapi;
        inv = inv;
        invall = invall;
        movall = movall;
        discard = discard;
      }),
    )))))))))))))
