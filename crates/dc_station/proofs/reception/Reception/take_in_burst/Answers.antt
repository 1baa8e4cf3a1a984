use Rattle.std.proofs.Common.{refl}
use Rattle.dc_station.proofs.ReceivingLemmas.{took_going, took_message, took_void}
use Rattle.dc_station.proofs.reception.Reception.take_in_burst.Goals as goal

pub returns-in-Goes : goal.returns-in-Goes
returns-in-Goes c = took_going c.args.self.now _ c.args.field c.args.index c.args.w.now c.requires.phase c.requires.ready c.in-Goes.ensures refl refl refl

pub returns-in-Message : goal.returns-in-Message
returns-in-Message c = took_message c.args.self.now _ c.args.field c.args.index c.args.w.now c.in-Message.length c.message.result.now c.requires.phase c.in-Message.ensures c.place_from-self.ensures refl c.put_long.ensures.room c.message.ensures c.put_long.ensures.entries

pub returns-in-Void : goal.returns-in-Void
returns-in-Void c = took_void c.args.self.now _ c.args.field c.args.index c.args.w.now c.in-Void.why c.requires.phase c.in-Void.ensures c.place_from-self-in-Void.ensures refl refl
