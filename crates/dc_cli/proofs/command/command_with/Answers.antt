use Rattle.dc_cli.specs.Forms.{texts}
use Rattle.dc_cli.proofs.CommandLemmas.{other_word, ReadsAs-sum, ReadsAs-keygen, ReadsAs-migrate, ReadsAs-replay, ReadsAs-logs, ReadsAs-twin, ReadsAs-steer, ReadsAs-station, ReadsAs-hub, ReadsAs-trial}
use Rattle.dc_cli.proofs.command.command_with.Goals as goal

pub returns-in_default : goal.returns-in_default
returns-in_default c = other_word c.args.verb.now (texts c.args.rest.now) c.in_default.not-sum c.in_default.not-keygen c.in_default.not-migrate c.in_default.not-replay c.in_default.not-logs c.in_default.not-twin c.in_default.not-steer c.in_default.not-station c.in_default.not-hub c.in_default.not-trial

pub returns-in-replay : goal.returns-in-replay
returns-in-replay c = rw c.in-replay.is (ReadsAs-replay (texts c.args.rest.now) c.replay_of.result c.replay_of.ensures)

pub returns-in-trial : goal.returns-in-trial
returns-in-trial c = rw c.in-trial.is (ReadsAs-trial (texts c.args.rest.now) c.trial_of.result c.trial_of.ensures)

pub returns-in-sum : goal.returns-in-sum
returns-in-sum c = rw c.in-sum.is (ReadsAs-sum (texts c.args.rest.now) c.sum_of.result c.sum_of.ensures)

pub returns-in-keygen : goal.returns-in-keygen
returns-in-keygen c = rw c.in-keygen.is (ReadsAs-keygen (texts c.args.rest.now) c.keygen_of.result c.keygen_of.ensures)

pub returns-in-migrate : goal.returns-in-migrate
returns-in-migrate c = rw c.in-migrate.is (ReadsAs-migrate (texts c.args.rest.now) c.migrate_of.result c.migrate_of.ensures)

pub returns-in-logs : goal.returns-in-logs
returns-in-logs c = rw c.in-logs.is (ReadsAs-logs (texts c.args.rest.now) c.logs_of.result c.logs_of.ensures)

pub returns-in-twin : goal.returns-in-twin
returns-in-twin c = rw c.in-twin.is (ReadsAs-twin (texts c.args.rest.now) c.twin_of.result c.twin_of.ensures)

pub returns-in-steer : goal.returns-in-steer
returns-in-steer c = rw c.in-steer.is (ReadsAs-steer (texts c.args.rest.now) c.steer_of.result c.steer_of.ensures)

pub returns-in-station : goal.returns-in-station
returns-in-station c = rw c.in-station.is (ReadsAs-station (texts c.args.rest.now) c.player_of.result c.player_of.ensures)

pub returns-in-hub : goal.returns-in-hub
returns-in-hub c = rw c.in-hub.is (ReadsAs-hub (texts c.args.rest.now) c.hub_of.result c.hub_of.ensures)
