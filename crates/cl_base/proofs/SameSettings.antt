-- Equality of settings decides whether they are the same.
use Rattle.std.proofs.Common.{◌≡◌, Bool, true, false, ◌&&◌, refl, ap}
use Rattle.std.proofs.lemmas.Bool.{false≢true}
use Rattle.std.proofs.lemmas.Slice.Eq.{bytes_eq-Decides, slice_eq-Decides}
use Rattle.std.specs.Bool.{Decides}
use Rattle.std.specs.Cmp.Lexicographic.{pointwise}
use Rattle.std.specs.Str.{bytes_eq}
use Rattle.cl_base.specs.declared.config.Define.{Define}
use Rattle.cl_base.specs.declared.config.Settings.{Settings}
use Rattle.cl_base.specs.contracts.config.DefinePartialEq.TheImpl as define
use Rattle.cl_base.specs.contracts.config.SettingsPartialEq.TheImpl as settings

both : {P Q R : Type 0} (r s : Bool) → Decides r P → Decides s Q → (P → Q → R) → (R → P) → (R → Q) → Decides (r && s) R
both true s p q make first second = (λ e. make (p.0 refl) (q.0 e), λ h. q.1 (second h))
both false s p q make first second = (λ e. absurd (false≢true e), λ h. p.1 (first h))

define_Decides : (a b : Define) → Decides (define.ghosts.eq a b) (a ≡ b)
define_Decides a b =
    both (bytes_eq a.name b.name) (bytes_eq a.text b.text) (bytes_eq-Decides a.name b.name) (bytes_eq-Decides a.text b.text)
    (λ n t i. record { name = n i; text = t i }) (λ e. ap (λ (d : Define). d.name) e) (λ e. ap (λ (d : Define). d.text) e)

pub settings_Decides : (a b : Settings) → Decides (settings.ghosts.eq a b) (a ≡ b)
settings_Decides a b =
    both (pointwise bytes_eq a.includes b.includes) (pointwise define.ghosts.eq a.defines b.defines) (slice_eq-Decides bytes_eq-Decides a.includes b.includes _ refl) (slice_eq-Decides define_Decides a.defines b.defines _ refl)
    (λ n t i. record { includes = n i; defines = t i }) (λ e. ap (λ (d : Settings). d.includes) e) (λ e. ap (λ (d : Settings). d.defines) e)
