-- Which parts lie apart: one fact for each pair of classes that the list names. Assumes nothing.
use Rattle.std.specs.Prelude.{refl, ◌≢◌, ℕ, ◌-◌}
use Rattle.std.proofs.Common.{get_or-set_other}
use Rattle.std.proofs.lemmas.List.{set_comm}
use Rattle.rules.specs.Part.{Part}
use Rattle.rules.specs.Parts.{service_part, learn_part, send_part, receive_part, Device, on_device, link_part, tell_part, serve_part}
use Rattle.rules_exchange.specs.Apart.{Apart}

-- ---- whatever the nodes

pub service-send : (n : ℕ) → Apart service_part (send_part n)
service-send n = record { unread = λ w s. refl; unread' = λ w s. refl; order = λ w v s. refl }

pub service-receive : (n : ℕ) → Apart service_part (receive_part n)
service-receive n = record { unread = λ w s. refl; unread' = λ w s. refl; order = λ w v s. refl }

-- Any part of the device, so every step of the switch.
module _ {R W : Type 0} (p : Part Device R W) where
  pub service-device : Apart service_part (on_device p)
  service-device = record { unread = λ w s. refl; unread' = λ w s. refl; order = λ w v s. refl }

  pub learn-device : (n : ℕ) → Apart (learn_part n) (on_device p)
  learn-device n = record { unread = λ w s. refl; unread' = λ w s. refl; order = λ w v s. refl }

-- ---- for nodes that stand at different places

module _ (n m : ℕ) (h : n - 1 ≢ m - 1) (h' : m - 1 ≢ n - 1) where
  pub learn-learn : Apart (learn_part n) (learn_part m)
  learn-learn = record { unread = λ w s. simp get_or-set_other; unread' = λ w s. simp get_or-set_other; order = λ w v s. simp set_comm }

  pub learn-send : Apart (learn_part n) (send_part m)
  learn-send = record { unread = λ w s. simp get_or-set_other; unread' = λ w s. refl; order = λ w v s. refl }

  pub learn-receive : Apart (learn_part n) (receive_part m)
  learn-receive = record { unread = λ w s. simp get_or-set_other; unread' = λ w s. refl; order = λ w v s. refl }

  pub send-send : Apart (send_part n) (send_part m)
  send-send = record { unread = λ w s. simp get_or-set_other; unread' = λ w s. simp get_or-set_other; order = λ w v s. simp set_comm }

  pub send-receive : Apart (send_part n) (receive_part m)
  send-receive = record { unread = λ w s. simp get_or-set_other; unread' = λ w s. simp get_or-set_other; order = λ w v s. refl }

  pub receive-receive : Apart (receive_part n) (receive_part m)
  receive-receive = record { unread = λ w s. simp get_or-set_other; unread' = λ w s. simp get_or-set_other; order = λ w v s. simp set_comm }

  pub send-link : Apart (send_part n) (on_device (link_part m))
  send-link = record { unread = λ w s. refl; unread' = λ w s. simp get_or-set_other; order = λ w v s. refl }

  pub send-tell : Apart (send_part n) (on_device (tell_part m))
  send-tell = record { unread = λ w s. simp get_or-set_other; unread' = λ w s. simp get_or-set_other; order = λ w v s. simp set_comm }

  pub send-serve : Apart (send_part n) (on_device (serve_part m))
  send-serve = record { unread = λ w s. simp get_or-set_other; unread' = λ w s. simp get_or-set_other; order = λ w v s. simp set_comm }

  pub receive-link : Apart (receive_part n) (on_device (link_part m))
  receive-link = record { unread = λ w s. refl; unread' = λ w s. simp get_or-set_other; order = λ w v s. refl }

  pub receive-serve : Apart (receive_part n) (on_device (serve_part m))
  receive-serve = record { unread = λ w s. simp get_or-set_other; unread' = λ w s. simp get_or-set_other; order = λ w v s. simp set_comm }
